use Rattle.cab_unit.proofs.Stepping.{switched_on_lem, facts_new}
use Rattle.cab_unit.proofs.unit.Unit.switch_on.Goals as goal

pub returns : goal.returns
returns g c = switched_on_lem (g.E.TrainEnd.speed_of c.args.end) _ _ _ c.none.ensures c.settle.ensures

pub invariant_of-result : goal.invariant_of-result
invariant_of-result g c =
    let speed = g.E.TrainEnd.speed_of c.args.end in
    record { facts = facts_new speed _ (switched_on_lem speed _ _ _ c.none.ensures c.settle.ensures) }
