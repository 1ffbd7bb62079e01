use Rattle.std.proofs.Common.{◌<◌, ◌≤◌, length, sym, ap, ◌∙◌, arith, take_all}
use Rattle.std.proofs.lemmas.List.{take_more_set}
use Rattle.cab_unit.specs.Events.{said}
use Rattle.cab_unit.specs.Steps.{next, reply}
use Rattle.bench.proofs.Running.{last_more, out_more, last_end, out_end}
use Rattle.bench.proofs.runs.run_into.Goals as goal

pub loop-i-preserved : goal.loop-i-preserved
loop-i-preserved g c =
    let reads = g.E.TrainEnd.reading in
    let calls = c.args.calls.now in
    let i = c.loop-i.i in
    let t = c.loop-i-test.true in
    let a = c.make_call.ensures in
    let within : i < length c.loop-i.answers = omega arith in
    let within' : i < length c.loop-i.speeds = omega arith in (
      last_more said (next reads) (reply reads) calls i _ _ _ _ t a.state c.loop-i.invariant.0,
      out_more said (next reads) (reply reads) calls i _ _ _ _ _ _ _ t a.state a.answer (take_more_set c.loop-i.answers i c.make_call.result within) c.loop-i.invariant.1,
      out_more said (next reads) (λ e s. (next reads e s).speed) calls i _ _ _ _ _ _ _ t a.state (c.speed.ensures ∙ ap (λ s. s.speed) a.state) (take_more_set c.loop-i.speeds i c.speed.result within') c.loop-i.invariant.2,
    )

pub returns : goal.returns
returns g c =
    let reads = g.E.TrainEnd.reading in
    let calls = c.args.calls.now in
    let i = c.loop-i.i in
    let t = c.loop-i-test.false in
    let over : length c.loop-i.answers ≤ i = omega arith in
    let over' : length c.loop-i.speeds ≤ i = omega arith in
    record {
      state = last_end said (next reads) (reply reads) calls i _ _ t c.loop-i.invariant.0;
      answers = sym (take_all _ _ over) ∙ out_end said (next reads) (reply reads) calls i _ _ _ t c.loop-i.invariant.1;
      speeds = sym (take_all _ _ over') ∙ out_end said (next reads) (λ e s. (next reads e s).speed) calls i _ _ _ t c.loop-i.invariant.2;
    }
