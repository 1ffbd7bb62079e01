-- Which speeds there are: an unknown one, and every whole number of km/h up to 600.
use Rattle.std.specs.Prelude.{◌≡◌, ℕ, Bool, true, false, Some, None, Option, nat_le}

abbrev pub in_range : Option ℕ → Bool
in_range None = true
in_range (Some s) = nat_le s 600

-- 600 km/h is in range, 601 is not
abbrev pub RangeEdges : Type 0
RangeEdges = (in_range (Some 600) ≡ true) × (in_range (Some 601) ≡ false)
