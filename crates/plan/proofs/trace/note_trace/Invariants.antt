use Rattle.std.proofs.Common.{◌≡◌, false, ◌++◌, map, drop, vec_items}
use Rattle.plan.specs.Notes.{note_trace}
use Rattle.plan.specs.declared.rows.Row.{Row}
use Rattle.plan.proofs.trace.note_trace.Given as goal

-- What is gathered so far, with what the rows to come give, is what all rows give.
abbrev pub invariant-loop-row : goal.invariant-loop-row
invariant-loop-row l =
    vec_items l.trace ++ note_trace l.before l.marks (map (λ (r : Row). r.told) (drop l.row-index l.rows))
    ≡ note_trace false l.inside (map (λ (r : Row). r.told) l.rows)
