use Rattle.std.proofs.Common.{ap, ◌∙◌}
use Rattle.window.specs.Window.{lines}
use Rattle.messages.specs.Shown.{showing}
use Rattle.messages.specs.View.{view}
use Rattle.messages.proofs.Held.{in_order, in_order-removed}
use Rattle.messages.proofs.messages.Messages.take_out.Goals as goal

pub returns-clause-shown : goal.returns-clause-shown
returns-clause-shown c es =
    let m = c.args.self.now in
    ap (λ ls. showing ls (view es m)) (ap (in_order es) c.remove.ensures.after ∙ in_order-removed es c.args.number (lines m.window))
