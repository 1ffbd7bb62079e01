use Rattle.std.proofs.Common.{subst, rules}
use Rattle.ordering.specs.Order.{NoneBefore}
use Rattle.driver_desk.specs.Requests.{before}
use Rattle.cab_unit.proofs.Room.{first_read}
use Rattle.cab_unit.proofs.waiting.Waiting.first.Goals as goal

pub returns : goal.returns
returns c =
    let w = c.args.self.now in
    first_read w.items.items c.first_of.result _ _ w.single (subst (λ l. NoneBefore before l c.first_of.result) c.deref.ensures.0 c.first_of.ensures.none_before) c.map.ensures.cases (λ i x h k. search rules)
