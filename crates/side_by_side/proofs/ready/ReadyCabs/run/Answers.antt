use Rattle.std.proofs.Common.{length, ap, sym, ◌∙◌, arith}
use Rattle.std.proofs.lemmas.List.{length-map}
use Rattle.cab_unit.specs.Events.{said}
use Rattle.side_by_side.specs.Cabs.{ran, rows_of, other_rows_of, plans_of}
use Rattle.side_by_side.proofs.Agreeing.{found_beside, one_list_agrees, wants_memory}
use Rattle.side_by_side.proofs.ready.ReadyCabs.run.Goals as goal

pub returns-clause-one_list : goal.returns-clause-one_list
returns-clause-one_list g c =
    let p = plans_of c.args.self in
    let both = c.in-Ok.compared in
    let rs = ran g.E.TrainEnd g.F.TrainEnd c.args.self (record { bus = both.one; pulse = both.other; finding = c.find-finding.result }) in
    let found = found_beside rs (rows_of p) (other_rows_of p) c.find-finding.result both.verdict c.in-Ok.ensures.verdict c.find-finding.ensures.verdict c.find-finding.ensures.notes in
    one_list_agrees rs (rows_of p) (other_rows_of p) c.find-finding.result _ _ c.in-Ok.ensures.laws both.one.answers.ok.0 found

pub returns-clause-memory : goal.returns-clause-memory
returns-clause-memory g c =
    let self = c.args.self in
    let both = c.in-Ok.compared in
    let rs = ran g.E.TrainEnd g.F.TrainEnd self (record { bus = both.one; pulse = both.other; finding = c.find-finding.result }) in
    let a = ap length self.bus_calls in
    let b = ap length self.pulse_calls in
    let d = c.in-Ok.ensures.calls in
    wants_memory rs (plans_of self) c.find-finding.result both.verdict _ _ c.in-Ok.ensures.laws c.in-Ok.ensures.verdict c.find-finding.ensures.memory c.in-Ok.ensures.memory
    (ap (λ k. length k.now) (sym d.0) ∙ sym (length-map both.one.calls.now said))
    (ap (λ k. length k.now) (sym d.1) ∙ sym (length-map both.other.calls.now said))
    (omega (arith, a, b, (plans_of self).bus.calls.ok.0, (plans_of self).pulse.calls.ok.0))
