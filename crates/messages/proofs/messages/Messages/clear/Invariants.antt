use Rattle.std.proofs.Common.{◌≡◌, length}
use Rattle.window.specs.Window.{lines}
use Rattle.messages.proofs.messages.Messages.clear.Given as goal

abbrev pub invariant-loop-number : goal.invariant-loop-number
invariant-loop-number l = l.self.cycle ≡ l.initial.self.cycle

abbrev pub decreases-loop-number : goal.decreases-loop-number
decreases-loop-number l = length (lines l.self.window)
