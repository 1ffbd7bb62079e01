-- Both cabs, before and after their runs.
use Rattle.std.specs.Prelude.{◌≡◌, ℕ, ◌+◌, ◌<◌, ◌&&◌, List, length, vec_items, vec_len, IfOk, ◌==◌}
use Rattle.train_end.specs.declared.end.TrainEnd.{Ghosts as EndMeaning}
use Rattle.bench.specs.Both.{TwoRuns}
use Rattle.bench.specs.View.{runs}
use Rattle.compare.specs.Verdicts.{SameList, SpeedsEqual}
use Rattle.plan.specs.Calls.{planned}
use Rattle.plan.specs.declared.lists.Plans.{Plans}
use Rattle.plan.specs.declared.rows.Row.{Row}
use Rattle.side_by_side.specs.Findings.{found_status}
use Rattle.side_by_side.specs.declared.cabs.BothCabs.{BothCabs}
use Rattle.side_by_side.specs.declared.ready.ReadyCabs.{ReadyCabs}
use Rattle.side_by_side.specs.declared.status.Status.{Status}
use Rattle.side_by_side.specs.declared.status.Status.TheVariants.{Agree}

-- the plans of cabs that are ready, and their ends
abbrev pub plans_of : {E F : Type 0} → ReadyCabs E F → Plans
plans_of c = c.plans.now

-- the runs of both
abbrev pub ran : {E F : Type 0} → EndMeaning E → EndMeaning F → ReadyCabs E F → BothCabs E F → TwoRuns
ran one other c both = runs one other c.bus c.pulse (both.bus, both.pulse)

-- the runs are those of the planned calls
pub record Planned (p : Plans) (rs : TwoRuns) : Type 0 where
  pub bus : rs.one.calls ≡ planned p.bus
  pub pulse : rs.other.calls ≡ planned p.pulse

abbrev pub rows_of : Plans → List Row
rows_of p = vec_items p.bus.rows

abbrev pub other_rows_of : Plans → List Row
other_rows_of p = vec_items p.pulse.rows

-- how many calls and how many rows are planned for both
abbrev pub calls_planned : Plans → ℕ
calls_planned p = vec_len p.bus.calls + vec_len p.pulse.calls

abbrev pub rows_planned : Plans → ℕ
rows_planned p = vec_len p.bus.rows + vec_len p.pulse.rows

-- one list was run: the rows of both cabs are the same, and their calls up to blocks
abbrev pub OneList : Plans → TwoRuns → Type 0
OneList p rs = (rows_of p ≡ other_rows_of p) × SameList rs

abbrev pub status_of : {E F : Type 0} → BothCabs E F → Status
status_of both = found_status ((vec_len both.bus.answers == 0) && (vec_len both.pulse.answers == 0)) both.finding

-- where one list with a call was run and the speeds were equal, the status is that nothing differs
abbrev pub OneListAgrees : {E F : Type 0} → Plans → TwoRuns → BothCabs E F → Type 0
OneListAgrees p rs both = OneList p rs → 0 < length rs.one.calls → IfOk both.finding (λ f. SpeedsEqual rs f.verdict → status_of both ≡ Agree)
