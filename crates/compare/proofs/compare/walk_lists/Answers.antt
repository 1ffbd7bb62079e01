use Rattle.std.proofs.Common.{◌≡◌, ◌+◌, ◌<◌, ◌&&◌, ◌++◌, Bool, List, length, vec_items, rules, sym, ap, ◌∙◌, subst₂, arith}
use Rattle.std.proofs.lemmas.List.{length-map}
use Rattle.compare.specs.Asked.{asked}
use Rattle.compare.specs.Marks.{marks_of}
use Rattle.compare.specs.declared.marks.Mark.{Mark}
use Rattle.compare.proofs.Walking.{Walks, walk_more, walk_past, front_fits}
use Rattle.compare.proofs.compare.walk_lists.Goals as goal

pub loop-run-smaller : goal.loop-run-smaller
loop-run-smaller c =
    let k = c.in_ok-step.step.length in
    let f = front_fits c.in_ok-step.ensures c.behind-run.ensures.calls c.behind-run.ensures.answers c.behind-other.ensures.calls c.behind-other.ensures.answers c.loop-run.invariant.0 in
    let n : 0 < k = f.1 in
    let left : k + length (asked c.behind-run.result) ≡ length (asked c.loop-run.run) = f.2 in
    omega (arith, n, left)

pub loop-run-preserved : goal.loop-run-preserved
loop-run-preserved c =
    let r = c.in_ok-step.ensures in
    let v = c.loop-run.marks in
    let k = c.in_ok-step.step.length in
    let all = c.args.run in
    let others = c.args.other in
    let f = front_fits r c.behind-run.ensures.calls c.behind-run.ensures.answers c.behind-other.ensures.calls c.behind-other.ensures.answers c.loop-run.invariant.0 in
    let marks = c.in_ok-add_marks.ensures.items ∙ ap (λ m. vec_items v ++ marks_of m k) c.is_reordered.ensures in (
      f.0,
      omega (arith, f.2, c.in_ok-add_marks.ensures.len, c.loop-run.invariant.1),
      subst₂ (λ (t : Bool) (ms : List Mark). Walks (asked all) all.answers.now (asked others) others.answers.now (asked c.behind-run.result) c.behind-run.result.answers.now (asked c.behind-other.result) c.behind-other.result.answers.now (c.loop-run.alike && t) ms) (sym c.is_alike-alike.ensures) (sym marks)
          (walk_more r c.behind-run.ensures.calls c.behind-run.ensures.answers c.behind-other.ensures.calls c.behind-other.ensures.answers c.loop-run.alike (vec_items v) c.loop-run.invariant.2),
    )

pub returns-clause-value : goal.returns-clause-value
returns-clause-value c = walk_past _ _ c.loop-run.invariant.0 (search (rules, length-map)) c.loop-run.invariant.2
