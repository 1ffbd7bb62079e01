use Rattle.std.proofs.Common.{refl, arith}
use Rattle.columns.proofs.Parts.{all_same}
use Rattle.columns.proofs.difference.first_difference.Goals as goal

pub returns-clause-none : goal.returns-clause-none
returns-clause-none c = (λ _. all_same _ _ (λ d h. c.loop-column.invariant.1 d (omega arith)), λ _. refl)
