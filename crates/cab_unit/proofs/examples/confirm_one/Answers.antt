use Rattle.std.proofs.Common.{◌∙◌}
use Rattle.cab_unit.proofs.Taking.{taking_keeps_speed}
use Rattle.cab_unit.proofs.examples.confirm_one.Goals as goal

pub returns-clause-speed : goal.returns-clause-speed
returns-clause-speed g c =
    c.switch_off.ensures.speed ∙ taking_keeps_speed g.E.TrainEnd.reading c.yes-confirmed.result.train (g.E.TrainEnd.speed_of c.args.end) _ _ c.switch_on-unit.ensures c.take.ensures.state
