-- What is found of two cabs, beside their runs what is no call of them, and what status that has.
use Rattle.std.specs.Prelude.{◌≡◌, ℕ, Bool, false, cond, ◌&&◌, List, map, vec_items, Ok, Err, Option, Result, Decides, ◌==◌}
use Rattle.bench.specs.Both.{TwoRuns}
use Rattle.compare.specs.Marks.{is_inside}
use Rattle.compare.specs.Verdicts.{VerdictOf}
use Rattle.compare.specs.declared.marks.Mark.{Mark}
use Rattle.plan.specs.Notes.{note_trace}
use Rattle.plan.specs.declared.rows.Row.{Row}
use Rattle.side_by_side.specs.declared.finding.Finding.{Finding}
use Rattle.side_by_side.specs.declared.status.Status.{Status}
use Rattle.side_by_side.specs.declared.status.Status.TheVariants.{Agree, Differ, Trouble}

-- what the rows tell that is no call, as it is compared
abbrev pub notes_of : List Mark → List Row → List (Option ℕ)
notes_of marks rows = note_trace false (map is_inside marks) (map (λ (r : Row). r.told) rows)

-- the verdict on the runs, and whether the notes of both agree
pub record FindingOf (rs : TwoRuns) (rows other_rows : List Row) (f : Finding) : Type 0 where
  pub verdict : VerdictOf rs f.verdict
  pub notes : Decides f.notes_agree (notes_of (vec_items f.verdict.marks) rows ≡ notes_of (vec_items f.verdict.marks) other_rows)

-- the lists are alike, no compared answer and no compared message differs, and the notes agree
abbrev pub agrees : Finding → Bool
agrees f = f.verdict.alike && ((f.verdict.tallies.answers.differing == 0) && ((f.verdict.tallies.messages.differing == 0) && f.notes_agree))

-- where nothing was found, or neither cab answered a call, nothing was compared
abbrev pub found_status : {X : Type 0} → Bool → Result Finding X → Status
found_status none (Ok f) = cond none Trouble (cond (agrees f) Agree Differ)
found_status none (Err e) = Trouble
