-- The exit status.
use Rattle.std.specs.Prelude.{ℕ}
use Rattle.side_by_side.specs.declared.status.Status.{Status}
use Rattle.side_by_side.specs.declared.status.Status.TheVariants.{Agree, Differ, Trouble}

abbrev pub status_number : Status → ℕ
status_number Agree = 0
status_number Differ = 1
status_number Trouble = 2
