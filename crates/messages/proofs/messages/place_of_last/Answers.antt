use Rattle.std.proofs.Common.{get_or, sym, ◌∙◌, arith}
use Rattle.std.proofs.lemmas.Bool.Decides.{nat_tests}
use Rattle.std.proofs.lemmas.List.{get_or_default}
use Rattle.ordering.proofs.Choosing.{Strict, best_keeps, best_gives_way}
use Rattle.window.specs.Lines.{newer, level}
use Rattle.messages.proofs.Held.{free}
use Rattle.messages.proofs.messages.place_of_last.Goals as goal
use Rattle.messages.proofs.messages.place_of_last.Goals.{then-is_before, else-is_before}

-- the order of the lines, turned round
strict : Strict (λ x y. newer y x) level
strict = record { one = λ x y. grind (arith, nat_tests); carries = λ x y z e f. grind (arith, nat_tests) }

pub loop-i-preserved : goal.loop-i-preserved
loop-i-preserved c =
    let xs = c.args.lines.now in
    let best = c.loop-i.invariant in
    let within = c.loop-i-test.true in
    let i = c.loop-i.i in
    let b = c.loop-i.last in
    let at-i = get_or_default xs i free (get_or xs i free) within in
    let at-b = get_or_default xs b free (get_or xs b free) best.0 in
    elim c.if-is_before.branch [
      | then-is_before w ↦ rw w.last-is (best_gives_way strict xs i b _ _ best within at-i at-b (sym c.is_before.ensures ∙ w.if-is_before.true))
      | else-is_before w ↦ rw w.last-is (best_keeps strict xs i b _ _ best within at-i at-b (sym c.is_before.ensures ∙ w.if-is_before.false))
    ]
