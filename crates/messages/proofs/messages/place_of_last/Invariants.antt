use Rattle.ordering.proofs.Choosing.{BestOf}
use Rattle.window.specs.Lines.{newer}
use Rattle.messages.proofs.messages.place_of_last.Given as goal

abbrev pub invariant-loop-i : goal.invariant-loop-i
invariant-loop-i l = BestOf (λ x y. newer y x) l.lines l.i l.last
