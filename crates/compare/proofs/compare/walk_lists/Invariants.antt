use Rattle.std.proofs.Common.{◌≡◌, ◌+◌, length, vec_items, vec_len}
use Rattle.compare.specs.Asked.{asked}
use Rattle.compare.specs.Walked.{AsLong}
use Rattle.compare.proofs.Walking.{Walks}
use Rattle.compare.proofs.compare.walk_lists.Given as goal

abbrev pub invariant-loop-run : goal.invariant-loop-run
invariant-loop-run l =
    let all = l.initial.run in
    let others = l.initial.other in
    AsLong (asked l.run) l.run.answers.now (asked l.other) l.other.answers.now
    × (vec_len l.marks + length (asked l.run) ≡ length (asked all))
    × Walks (asked all) all.answers.now (asked others) others.answers.now (asked l.run) l.run.answers.now (asked l.other) l.other.answers.now l.alike (vec_items l.marks)

abbrev pub decreases-loop-run : goal.decreases-loop-run
decreases-loop-run l = length (asked l.run)
