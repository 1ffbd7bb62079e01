-- The status of what call lists ask of two cabs.
use Rattle.std.proofs.Common.{◌≡◌, ℕ, Bool, ◌&&◌, ◌==◌, List, vec_len, Ok, Result, None, IfOk, ap, ◌∙◌, subst, ap₂}
use Rattle.train_end.specs.declared.end.TrainEnd.{Ghosts as EndMeaning}
use Rattle.train_end.specs.Bus.{bus_reading}
use Rattle.train_end.specs.Pulse.{pulse_reading}
use Rattle.bench.specs.Both.{Laws}
use Rattle.call_list.specs.declared.listed.Listed.{Listed}
use Rattle.plan.specs.Calls.{calls_for, planned}
use Rattle.plan.specs.Rows.{rows_for}
use Rattle.plan.specs.declared.cab.Cab.TheVariants.{Bus, Pulse}
use Rattle.plan.specs.declared.lists.Plans.{Plans}
use Rattle.side_by_side.specs.Cabs.{Planned, other_rows_of, plans_of, ran, rows_of, status_of}
use Rattle.side_by_side.specs.Findings.{FindingOf, found_status}
use Rattle.side_by_side.specs.Lists.{StatusOfLists}
use Rattle.side_by_side.specs.declared.cabs.BothCabs.{BothCabs}
use Rattle.side_by_side.specs.declared.finding.Finding.{Finding}
use Rattle.side_by_side.specs.declared.ready.ReadyCabs.{ReadyCabs}
use Rattle.side_by_side.specs.declared.status.Status.{Status}

-- what is asked of both cabs is what the lists ask
pub record Asked (listed other : List Listed) (p : Plans) : Type 0 where
  pub bus : planned p.bus ≡ calls_for Bus listed
  pub pulse : planned p.pulse ≡ calls_for Pulse other
  pub bus_rows : rows_of p ≡ rows_for listed
  pub pulse_rows : other_rows_of p ≡ rows_for other

-- the ends are new ones of their makes
pub record NewEnds {E F : Type 0} (one : EndMeaning E) (other : EndMeaning F) (c : ReadyCabs E F) : Type 0 where
  pub bus_reads : one.reading ≡ bus_reading
  pub pulse_reads : other.reading ≡ pulse_reading
  pub bus_new : one.speed_of c.bus.end ≡ None
  pub pulse_new : other.speed_of c.pulse.end ≡ None

-- the status does not rest on why nothing was found
found_either : {X : Type 0} (Y : Type 0) (b : Bool) (r : Result Finding X) (f : Finding) → r ≡ Ok f → found_status {X = X} b r ≡ found_status {X = Y} b (Ok f)
found_either {X} Y b r f e = ap (found_status {X = X} b) e

pub status_of_lists : {E F : Type 0} (one : EndMeaning E) (other : EndMeaning F) (c : ReadyCabs E F) (both : BothCabs E F) (listed other_listed : List Listed) (f : Finding) (s : Status) →
    NewEnds one other c → Asked listed other_listed (plans_of c) → Planned (plans_of c) (ran one other c both) → Laws (ran one other c both) →
    IfOk both.finding (λ g. FindingOf (ran one other c both) (rows_of (plans_of c)) (other_rows_of (plans_of c)) g) → both.finding ≡ Ok f → s ≡ status_of both → StatusOfLists listed other_listed s
status_of_lists one other c both listed other_listed f s n a p l d e t =
    let rs = ran one other c both in
    let found : FindingOf rs (rows_of (plans_of c)) (other_rows_of (plans_of c)) f = subst (λ r. IfOk r (λ g. FindingOf rs (rows_of (plans_of c)) (other_rows_of (plans_of c)) g)) e d in (
      rs,
      f,
      record {
        bus = p.bus ∙ a.bus;
        pulse = p.pulse ∙ a.pulse;
        bus_reads = n.bus_reads;
        pulse_reads = n.pulse_reads;
        bus_new = n.bus_new;
        pulse_new = n.pulse_new;
        laws = l;
      },
      subst (λ xs. FindingOf rs xs (rows_for other_listed) f) a.bus_rows (subst (λ ys. FindingOf rs (rows_of (plans_of c)) ys f) a.pulse_rows found),
      t
          ∙ found_either ℕ ((vec_len both.bus.answers == 0) && (vec_len both.pulse.answers == 0)) both.finding f e
          ∙ ap₂ (λ i j. found_status {X = ℕ} ((i == 0) && (j == 0)) (Ok f)) both.bus.answers.ok.0 both.pulse.answers.ok.0,
    )
