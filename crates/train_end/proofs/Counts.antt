-- The counts of the two axles.
use Rattle.std.proofs.Common.{◌≡◌, ℕ, ◌+◌, ◌-◌, ◌*◌, min, max, cond, Some, None, ap, ◌∙◌}
use Rattle.std.proofs.Math.Nat.{max_comm, min_comm}
use Rattle.std.specs.Prelude.{nat_le, option_and_then}
use Rattle.train_end.specs.Pulse.{larger_of, count_speed, AxlesAlike}

-- The larger of two counts is the larger of the other and the one.
larger_either_way : (x y : ℕ) → larger_of x y ≡ larger_of y x
larger_either_way x y =
    ap (λ most. cond (nat_le (most - min x y) 3) (Some most) None) (max_comm x y)
    ∙ ap (λ least. cond (nat_le (max y x - least) 3) (Some (max y x)) None) (min_comm x y)

pub axles_alike : AxlesAlike
axles_alike a b c d = ap (λ p. option_and_then count_speed p) (larger_either_way (a * 256 + b) (c * 256 + d))
