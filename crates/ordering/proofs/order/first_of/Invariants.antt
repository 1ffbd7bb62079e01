use Rattle.ordering.proofs.Choosing.{BestOf}
use Rattle.ordering.proofs.order.first_of.Given as goal

abbrev pub invariant-loop-i : goal.invariant-loop-i
invariant-loop-i g l = BestOf g.T.Ordered.before l.run l.i l.best
