-- What the bus end reads in a block of two bytes. The highest bit says that the speed is valid, the
-- five below it are filler, and the ten lowest are the speed in km/h.
use Rattle.std.specs.Prelude.{◌≡◌, ℕ, ◌+◌, ◌*◌, ◌/◌, ◌%◌, ◌<◌, ◌≤◌, cond, ◌&&◌, List, [], ◌∷◌, Some, None, Option, ◌==◌, nat_le}

-- the three fields of the two bytes
abbrev pub valid_bit : ℕ → ℕ
valid_bit high = high / 128

abbrev pub filler_bits : ℕ → ℕ
filler_bits high = high / 4 % 32

abbrev pub speed_bits : ℕ → ℕ → ℕ
speed_bits high low = high % 4 * 256 + low

abbrev pub bus_fields : ℕ → ℕ → ℕ → Option ℕ
bus_fields valid filler speed = cond (valid == 1 && filler == 0 && nat_le speed 600) (Some speed) None

abbrev pub bus_reading : List ℕ → Option ℕ
bus_reading [] = None
bus_reading (high ∷ []) = None
bus_reading (high ∷ low ∷ []) = bus_fields (valid_bit high) (filler_bits high) (speed_bits high low)
bus_reading (high ∷ low ∷ more ∷ rest) = None

-- 82 58 is 600 km/h, the highest speed that is known; 82 59 is unknown
abbrev pub BusEdges : Type 0
BusEdges = (bus_reading (0x82 ∷ 0x58 ∷ []) ≡ Some 600) × (bus_reading (0x82 ∷ 0x59 ∷ []) ≡ None)

-- every speed from 0 to 600 has a block of two bytes that means it
abbrev pub EverySpeedHasABlock : Type 0
EverySpeedHasABlock =
    (speed : ℕ) → speed ≤ 600 → (high : ℕ) × (low : ℕ) × (high < 256) × (low < 256) × (bus_reading (high ∷ low ∷ []) ≡ Some speed)
