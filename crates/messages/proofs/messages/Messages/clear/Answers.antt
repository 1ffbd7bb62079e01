use Rattle.std.proofs.Common.{[], length, ap, ◌∙◌, arith}
use Rattle.window.specs.Window.{lines}
use Rattle.messages.proofs.Held.{fewer-removed}
use Rattle.messages.proofs.messages.Messages.clear.Goals as goal

pub loop-number-smaller : goal.loop-number-smaller
loop-number-smaller c =
    omega (arith, ap length c.take_out.ensures.left, fewer-removed c.in-Some.number (lines c.loop-number.self.window) c.in-Some.ensures)

pub loop-number-preserved : goal.loop-number-preserved
loop-number-preserved c = ap (λ v. v.cycle) (c.take_out.ensures.shown []) ∙ c.loop-number.invariant
