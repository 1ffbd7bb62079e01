-- The status of call lists: the bus cab gets the one, the pulse cab the other.
use Rattle.std.specs.Prelude.{◌≡◌, ℕ, ◌&&◌, List, length, Ok, None, ◌==◌}
use Rattle.train_end.specs.Bus.{bus_reading}
use Rattle.train_end.specs.Pulse.{pulse_reading}
use Rattle.bench.specs.Both.{Laws, TwoRuns}
use Rattle.call_list.specs.declared.listed.Listed.{Listed}
use Rattle.plan.specs.Calls.{calls_for}
use Rattle.plan.specs.Rows.{rows_for}
use Rattle.plan.specs.declared.cab.Cab.TheVariants.{Bus, Pulse}
use Rattle.side_by_side.specs.Findings.{FindingOf, found_status}
use Rattle.side_by_side.specs.declared.finding.Finding.{Finding}
use Rattle.side_by_side.specs.declared.status.Status.{Status}

-- both runs are those of the calls that the lists ask for, each on a new end of its make, and as the laws over runs say
pub record RunsOf (listed other : List Listed) (rs : TwoRuns) : Type 0 where
  pub bus : rs.one.calls ≡ calls_for Bus listed
  pub pulse : rs.other.calls ≡ calls_for Pulse other
  pub bus_reads : rs.one.reads ≡ bus_reading
  pub pulse_reads : rs.other.reads ≡ pulse_reading
  pub bus_new : rs.one.before ≡ None
  pub pulse_new : rs.other.before ≡ None
  pub laws : Laws rs

-- the status is that of what is found of these runs
abbrev pub StatusOfLists : List Listed → List Listed → Status → Type 0
StatusOfLists listed other s =
    (rs : TwoRuns) × (f : Finding) × RunsOf listed other rs × FindingOf rs (rows_for listed) (rows_for other) f
    × (s ≡ found_status {X = ℕ} ((length rs.one.answers == 0) && (length rs.other.answers == 0)) (Ok f))
