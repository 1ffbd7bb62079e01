use Rattle.std.proofs.Common.{◌≡◌, ◌<◌}
use Rattle.columns.specs.Difference.{column_place, SamePart}
use Rattle.columns.specs.Names.{columns}
use Rattle.columns.specs.declared.names.Column.{Column}
use Rattle.columns.proofs.difference.first_difference.Given as goal

-- The answers are the same in every column so far.
abbrev pub invariant-loop-column : goal.invariant-loop-column
invariant-loop-column l =
    (l.column-items ≡ columns) × ((d : Column) → column_place d < l.column-index → SamePart d l.one l.other)
