-- The two relays that hold the pulse end's line.
use Rattle.std.proofs.Common.{true, false, refl, arith}
use Rattle.train_end.specs.Line.{FailsSafe}

-- by the four positions of the relays
pub fails_safe : FailsSafe
fails_safe true true = (omega arith, omega arith, refl)
fails_safe true false = (omega arith, omega arith, refl)
fails_safe false true = (omega arith, omega arith, refl)
fails_safe false false = (omega arith, omega arith, refl)
