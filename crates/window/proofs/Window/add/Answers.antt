use Rattle.std.proofs.Common.{◌≡◌, false, sym, ◌∙◌}
use Rattle.window.specs.Lines.{has}
use Rattle.window.specs.Window.{lines}
use Rattle.window.proofs.Numbers.{removed_front, differ_put}
use Rattle.window.proofs.Window.add.Goals as goal

pub invariant_of-self : goal.invariant_of-self
invariant_of-self c =
    let w = c.args.self.now in
    let new : has c.args.line.number (lines w) ≡ false = sym (simp c.lines.ensures at c.is_there.ensures) ∙ c.if-is_there.false in
    record { distinct = differ_put w.shelf c.put_front.new.self c.args.line c.put_front.result c.put_front.ensures.cases new w.distinct }

pub returns-clause-undone : goal.returns-clause-undone
returns-clause-undone c =
    let w = c.args.self.now in
    let new : has c.args.line.number (lines w) ≡ false = sym (simp c.lines.ensures at c.is_there.ensures) ∙ c.if-is_there.false in
    λ _. rw c.in_ok-put_front.ensures.cases.1 (removed_front c.args.line (lines w) new)
