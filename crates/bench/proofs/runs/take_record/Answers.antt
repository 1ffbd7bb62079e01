use Rattle.std.proofs.Common.{◌≡◌, ap, ◌∙◌}
use Rattle.cab_unit.specs.Events.{Event.take}
use Rattle.cab_unit.specs.Steps.{next, reply}
use Rattle.cab_unit.specs.Units.{state_of}
use Rattle.bench.proofs.runs.take_record.Goals as goal

pub returns-in-Err-take : goal.returns-in-Err-take
returns-in-Err-take g c =
    let reads = g.E.TrainEnd.reading in
    let s = state_of g.E.TrainEnd c.args.unit.now in
    let e : take c.yes.result.train ≡ take c.args.train = ap take (c.yes.ensures ∙ c.in-Ok.ensures.0) in
    record {
      state = c.take.ensures.state ∙ ap (λ x. next reads x s) e;
      answer = c.in-Err-take.ensures.answer.0 ∙ ap (λ x. reply reads x s) e;
    }
