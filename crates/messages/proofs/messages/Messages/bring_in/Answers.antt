use Rattle.std.proofs.Common.{◌≡◌, ◌<◌, false, length, ap, ◌∙◌, arith}
use Rattle.window.specs.Lines.{has}
use Rattle.window.specs.Window.{lines, rows}
use Rattle.window.proofs.Numbers.{removed-gone}
use Rattle.driver_desk.specs.Sorting.{put}
use Rattle.messages.specs.Shown.{Display, shown_before, showing, making_room}
use Rattle.messages.specs.Texts.{text_at}
use Rattle.messages.specs.View.{view}
use Rattle.messages.proofs.Held.{in_order, added-new}
use Rattle.messages.proofs.messages.Messages.bring_in.Goals as goal

pub returns : goal.returns
returns c es =
    let n = c.args.number in
    let t = text_at es c.args.place in
    let m = c.make_room.new.self in
    let new : has n (lines m.window) ≡ false =
    c.make_room.ensures.others n (ap (has n) c.take_out.ensures.left ∙ removed-gone n (lines c.args.self.now.window)) in
    let room : length (lines m.window) < rows m.window = omega (arith, c.make_room.ensures.room, m.twelve) in
    let before = c.make_room.ensures.shown es ∙ ap (λ (v : Display). showing (making_room v.lines) v) (c.take_out.ensures.shown es) in
    ap (λ ls. showing (in_order es ls) (view es m)) (c.add.ensures.after ∙ added-new (rows m.window) (lines m.window) _ new room)
    ∙ ap (λ (v : Display). showing (put shown_before (record { cycle = v.cycle; number = n; words = t }) v.lines) v) before
