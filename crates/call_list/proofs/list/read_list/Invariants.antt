use Rattle.std.proofs.Common.{◌≡◌, ◌+◌, true, map, length, drop, vec_items}
use Rattle.std.specs.List.{slice_split}
use Rattle.call_list.specs.Words.{is_break}
use Rattle.call_list.specs.Lists.{behind, list_from, lines_of, list_of, located, may_want}
use Rattle.call_list.proofs.list.read_list.Given as goal

abbrev pub invariant-loop-i : goal.invariant-loop-i
invariant-loop-i l =
    (behind (map located (vec_items l.listed)) (list_from (length l.yielded + 1) (drop (length l.yielded) (slice_split is_break l.text))) ≡ list_of l.text)
    × (may_want (drop (length l.yielded) (slice_split is_break l.text)) ≡ true → may_want (lines_of l.text) ≡ true)
