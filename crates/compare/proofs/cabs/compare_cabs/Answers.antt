use Rattle.std.proofs.Common.{ℕ, List, Option, length, map, ap, ◌∙◌, ap₂}
use Rattle.cab_unit.specs.Events.{said}
use Rattle.cab_unit.specs.declared.call.Call.{Call}
use Rattle.driver_desk.specs.declared.answer.Answer.{Answer}
use Rattle.bench.specs.View.{runs}
use Rattle.compare.specs.Verdicts.{Lists}
use Rattle.compare.proofs.TwoCabs.{whole_defined, judged}
use Rattle.compare.proofs.cabs.compare_cabs.Goals as goal

pub compare_runs-verdict-requires : goal.compare_runs-verdict-requires
compare_runs-verdict-requires g c =
    let r = c.in_ok-one.ensures.laws.defined in
    let one = whole_defined _ r.0 in
    let other = whole_defined _ r.1 in
    ((ap length c.deref.ensures.value ∙ one.0, ap length c.deref-2.ensures.value ∙ one.1), (ap length c.deref-3.ensures.value ∙ other.0, ap length c.deref-4.ensures.value ∙ other.1))

pub returns-clause-verdict : goal.returns-clause-verdict
returns-clause-verdict g c =
    let lists : List Call → List Answer → List (Option ℕ) → Lists = λ ks as' vs. record { calls = map said ks; answers = as'; speeds = vs } in
    let rs = runs g.E.TrainEnd g.F.TrainEnd c.args.one c.args.other (c.in_ok-one.one, c.in_ok-one.other) in
    let w = c.compare_runs-verdict.ensures in
    judged rs c.compare_runs-verdict.result (ap₂ (lists c.in_ok-one.one.calls.now) c.deref.ensures.value c.deref-2.ensures.value) (ap₂ (lists c.in_ok-one.other.calls.now) c.deref-3.ensures.value c.deref-4.ensures.value)
    c.in_ok-one.ensures.laws w.found w.decided
