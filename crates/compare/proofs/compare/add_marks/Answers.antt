use Rattle.std.proofs.Common.{◌∷◌, ◌++◌, [], Bool, List, sym, ap, ◌∙◌, vec_items, vec_len}
use Rattle.compare.specs.Marks.{marks_of}
use Rattle.compare.specs.declared.marks.Mark.{Mark}
use Rattle.compare.specs.declared.marks.Mark.TheVariants.{Last}
use Rattle.compare.proofs.Walking.{stretch_more}
use Rattle.compare.proofs.compare.add_marks.Goals as goal

pub returns-in_ok-push-clause-items : goal.returns-in_ok-push-clause-items
returns-in_ok-push-clause-items c =
    let v = c.args.marks.now in
    c.in_ok-push.ensures.items
    ∙ ap (λ (l : List Mark). l ++ Last ∷ []) c.in_ok-resize-2.ensures.items
    ∙ stretch_more (vec_items v) (vec_len v) c.len-before.result c.args.length v.ok.0 c.len-before.ensures c.if-length-gt0.true
    ∙ ap (λ (b : Bool). vec_items v ++ marks_of b c.args.length) (sym c.if-not-reordered.false)
