use Rattle.std.proofs.Common.{sym, refl, ap, ◌∙◌, subst}
use Rattle.train_end.specs.Bus.{bus_reading}
use Rattle.train_end.specs.Line.{relay_line}
use Rattle.train_end.specs.Pulse.{pulse_reading}
use Rattle.train_end.specs.declared.bus.BusEnd.{BusEnd}
use Rattle.train_end.specs.declared.pulse.PulseEnd.{PulseEnd}
use Rattle.train_end.specs.declared.end.TrainEnd.{Ghosts as EndMeaning}
use Rattle.side_by_side.proofs.Listing.{Asked, status_of_lists}
use Rattle.cabcheck.proofs.report.report_runs.Goals as goal

pub returns : goal.returns
returns g c =
    let p = c.in_ok-plans.ensures in
    let e = c.in-Ok.ensures in
    let r = c.run-both.ensures in
    let bus : EndMeaning BusEnd = record { reading = bus_reading; speed_of = λ b. b.speed; line_of = λ b. b.line } in
    let pulse : EndMeaning PulseEnd = record { reading = pulse_reading; speed_of = λ b. b.speed; line_of = λ b. relay_line b.first_relay b.second_relay } in
    status_of_lists bus pulse c.in-Ok.ready c.run-both.result _ _ c.in_ok-finding.finding _
    (record { bus_reads = refl; pulse_reads = refl; bus_new = ap (λ b. b.speed) e.ends.0 ∙ c.new.ensures.speed; pulse_new = ap (λ b. b.speed) e.ends.1 ∙ c.new-2.ensures.speed })
    (subst (Asked _ _) (sym e.plans) (record { bus = p.bus_calls; pulse = p.pulse_calls; bus_rows = p.bus_rows; pulse_rows = p.pulse_rows }))
    r.planned r.laws r.finding c.in_ok-finding.was c.status-status.ensures
