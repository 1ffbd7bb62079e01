use Rattle.std.proofs.Common.{◌≡◌, map, take, vec_items}
use Rattle.compare.specs.Marks.{is_inside}
use Rattle.side_by_side.proofs.finding.inside_marks.Given as goal

abbrev pub invariant-loop-mark : goal.invariant-loop-mark
invariant-loop-mark l = vec_items l.inside ≡ map is_inside (take l.mark-index l.marks)
