use Rattle.std.proofs.Common.{arith}
use Rattle.compare.specs.Asked.{asked}
use Rattle.compare.specs.Walked.{Walked}
use Rattle.compare.proofs.Deciding.{compared_found}
use Rattle.compare.proofs.Walking.{compared_by, compared_applies, same_rows}
use Rattle.compare.proofs.compare.compare_lists.Goals as goal

pub returns : goal.returns
returns c =
    let k = compared_by (asked c.args.run) c.args.run.answers.now (asked c.args.other) c.args.other.answers.now c.min-n.result c.as_long.result _ _
    (omega arith) c.as_long.ensures (same_rows (Walked _ _) c.cut.ensures.calls c.cut.ensures.answers c.cut-2.ensures.calls c.cut-2.ensures.answers c.in_ok-alike.ensures.value) in
    record { value = k; law = (compared_applies k, compared_found k); memory = tt }
