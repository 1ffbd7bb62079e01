use Rattle.std.proofs.Common.{length, Some, rules}
use Rattle.ordering.specs.Order.{NoneBefore}
use Rattle.ordering.proofs.Choosing.{Strict, BestOf, best_of_one, best_keeps, best_gives_way, best_chosen, leads}
use Rattle.ordering.proofs.order.first_of.Given as given
use Rattle.ordering.proofs.order.first_of.Goals as goal
use Rattle.ordering.proofs.order.first_of.Goals.{then-is_before, else-is_before}

strict : (g : given.Over) → Strict g.T.Ordered.before g.T.Ordered.same
strict g = record { one = g.met.T.Ordered.one; carries = g.met.T.Ordered.carries }

pub loop-i-init : goal.loop-i-init
loop-i-init g c = best_of_one (strict g) c.args.run.now (search rules)

pub loop-i-preserved : goal.loop-i-preserved
loop-i-preserved g c =
    elim c.if-is_before.branch [
      | then-is_before w ↦ rw w.best-is (best_gives_way (strict g) _ _ _ _ _ c.loop-i.invariant c.loop-i-test.true c.index-run-i.is c.index-run-best.is (search rules))
      | else-is_before w ↦ rw w.best-is (best_keeps (strict g) _ _ _ _ _ c.loop-i.invariant c.loop-i-test.true c.index-run-i.is c.index-run-best.is (search rules))
    ]

pub returns : goal.returns
returns g c =
    let xs = c.args.run.now in
    let b = c.loop-i.best in
    let best : BestOf g.T.Ordered.before xs (length xs) b = search rules in
    let none_before : NoneBefore g.T.Ordered.before xs (Some b) = (best.0, best.1) in
    record { value = best_chosen (strict g) xs b best; none_before = none_before; leads = leads (strict g) xs (Some b) none_before }
