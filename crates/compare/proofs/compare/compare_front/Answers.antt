use Rattle.std.proofs.Common.{◌<◌, sym, ◌∙◌, subst}
use Rattle.std.proofs.lemmas.Bool.Decides.{not_from_Decides}
use Rattle.std.proofs.lemmas.Bool.{and_left, and_right}
use Rattle.compare.proofs.Walking.{front_same, front_other, front_apart}
use Rattle.compare.proofs.compare.compare_front.Goals as goal
use Rattle.compare.proofs.compare.compare_front.Goals.{then-is_none-via-then-is_none, then-is_none-via-else-is_none+then-is_none-2}

pub returns-then-same_asked : goal.returns-then-same_asked
returns-then-same_asked c =
    front_same c.args.run.calls.now c.args.other.calls.now c.args.run.answers.now c.args.other.answers.now _ _ c.requires.0 c.requires.1 (c.same_asked.ensures.0 c.if-same_asked.true)

pub returns-then-is_none : goal.returns-then-is_none
returns-then-is_none c =
    front_other c.args.run.calls.now c.args.other.calls.now c.args.run.answers.now c.args.other.answers.now _ _ c.requires.0 c.requires.1 (not_from_Decides _ c.same_asked.ensures c.if-same_asked.false)
    (elim c.then-is_none.branch [
      | then-is_none-via-then-is_none w ↦ and_left _ _ (sym c.text_at.ensures.found ∙ w.if-is_none.ensures)
      | then-is_none-via-else-is_none+then-is_none-2 w ↦ and_right _ _ (sym w.text_at-else-is_none.ensures.found ∙ w.if-is_none-2.ensures)
    ])

pub stretch_ahead-requires-clause-differ : goal.stretch_ahead-requires-clause-differ
stretch_ahead-requires-clause-differ c =
    front_apart c.args.run.calls.now c.args.other.calls.now _ _ c.requires.0 (subst (λ n. 0 < n) (sym c.requires.1.0) c.requires.0) (not_from_Decides _ c.same_asked.ensures c.if-same_asked.false)
