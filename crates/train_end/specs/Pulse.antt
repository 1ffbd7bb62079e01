-- What the pulse end reads in a block of four bytes. The first two count the pulses of one axle and
-- the last two those of the other, the high byte of each count in front.
use Rattle.std.specs.Prelude.{◌≡◌, ℕ, ◌+◌, ◌-◌, ◌*◌, ◌/◌, ◌<◌, ◌≤◌, min, max, cond, List, [], ◌∷◌, Some, None, Option, option_and_then, is_some, nat_le}

abbrev pub larger_of : ℕ → ℕ → Option ℕ
larger_of one other = cond (nat_le (max one other - min one other) 3) (Some (max one other)) None

abbrev pub pulse_counts : List ℕ → Option (ℕ × ℕ)
pulse_counts [] = None
pulse_counts (a ∷ []) = None
pulse_counts (a ∷ b ∷ []) = None
pulse_counts (a ∷ b ∷ c ∷ []) = None
pulse_counts (a ∷ b ∷ c ∷ d ∷ []) = Some (a * 256 + b, c * 256 + d)
pulse_counts (a ∷ b ∷ c ∷ d ∷ e ∷ rest) = None

-- the larger of two counts that differ by at most 3
abbrev pub larger_count : ℕ × ℕ → Option ℕ
larger_count counts = larger_of counts.0 counts.1

-- 27 × p / 25 rounded up
abbrev pub kmh_of : ℕ → ℕ
kmh_of p = (27 * p + 24) / 25

-- up to 555 pulses the speed is known
abbrev pub count_speed : ℕ → Option ℕ
count_speed p = cond (nat_le p 555) (Some (kmh_of p)) None

-- the count that a block comes to: unknown where there is no pair, or its counts lie apart
abbrev pub pulse_count : List ℕ → Option ℕ
pulse_count block = option_and_then larger_count (pulse_counts block)

abbrev pub pulse_reading : List ℕ → Option ℕ
pulse_reading block = option_and_then count_speed (pulse_count block)

-- 1 pulse on an axle is 2 km/h; 555 are 600 km/h, the last count that is known
abbrev pub PulseEdges : Type 0
PulseEdges = (pulse_reading (0 ∷ 1 ∷ 0 ∷ 0 ∷ []) ≡ Some 2) × (pulse_reading (0x02 ∷ 0x2B ∷ 0x02 ∷ 0x2B ∷ []) ≡ Some 600)
    × (pulse_reading (0x02 ∷ 0x2C ∷ 0x02 ∷ 0x2B ∷ []) ≡ None)

-- which axle a count comes from makes no difference
abbrev pub AxlesAlike : Type 0
AxlesAlike = (a b c d : ℕ) → pulse_reading (a ∷ b ∷ c ∷ d ∷ []) ≡ pulse_reading (c ∷ d ∷ a ∷ b ∷ [])

-- the speed is known for every larger count up to 555, and for none above
abbrev pub KnownTo555 : Type 0
KnownTo555 = (block : List ℕ) (p : ℕ) → pulse_count block ≡ Some p → is_some (pulse_reading block) ≡ nat_le p 555

-- of two blocks, the one whose larger count is not below the other's never means a lower speed
abbrev pub NeverFalls : Type 0
NeverFalls = (block other : List ℕ) (p q s t : ℕ) → pulse_count block ≡ Some p → pulse_count other ≡ Some q → p ≤ q →
    pulse_reading block ≡ Some s → pulse_reading other ≡ Some t → s ≤ t

-- a speed read is 27/25 of the larger count or above it, by less than 1 km/h
abbrev pub RoundedUp : Type 0
RoundedUp = (block : List ℕ) (p s : ℕ) → pulse_count block ≡ Some p → pulse_reading block ≡ Some s → (27 * p ≤ 25 * s) × (25 * s < 27 * p + 25)
