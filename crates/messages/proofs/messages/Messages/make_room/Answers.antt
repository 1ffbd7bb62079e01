use Rattle.std.proofs.Common.{◌≡◌, ◌==◌, ◌<◌, Some, length, get_or, sym, refl, ap, ◌∙◌, subst, arith}
use Rattle.std.proofs.lemmas.Bool.{eq-eqb}
use Rattle.std.proofs.lemmas.List.Folds.{list_any_at}
use Rattle.ordering.specs.Order.{NoneBefore}
use Rattle.window.specs.Lines.{newer, has, removed}
use Rattle.window.specs.Window.{lines}
use Rattle.messages.specs.Shown.{showing}
use Rattle.messages.specs.View.{view}
use Rattle.messages.proofs.Held.{free, in_order, in_order-removed, fewer-removed, has-removed, most-held, made_room, room-left}
use Rattle.messages.proofs.messages.Messages.make_room.Goals as goal

pub returns-then-len-lt-ROWS-clause-shown : goal.returns-then-len-lt-ROWS-clause-shown
returns-then-len-lt-ROWS-clause-shown c es =
    let m = c.args.self.now in
    let less : length (lines m.window) < 12 = omega arith in
    sym (ap (λ ls. showing ls (view es m)) (room-left es (lines m.window) less))

pub returns-in-Some-clause-room : goal.returns-in-Some-clause-room
returns-in-Some-clause-room c =
    let w = c.args.self.now.window in
    let ls = lines w in
    let i = c.in-Some.last in
    let n = (get_or ls i free).number in
    let last = subst (λ t. NoneBefore (λ x y. newer y x) t (Some i)) c.lines-lines.ensures c.in-Some.ensures in
    let left = c.take_out.ensures.left ∙ ap (λ t. removed (get_or t i free).number ls) c.lines-lines.ensures in
    let there = list_any_at (λ line. line.number == n) ls i free last.0 (eq-eqb n n refl) in
    omega (arith, ap length left, fewer-removed n ls there, most-held w, c.args.self.now.twelve)

pub returns-in-Some-clause-others : goal.returns-in-Some-clause-others
returns-in-Some-clause-others c n h = ap (has n) c.take_out.ensures.left ∙ has-removed n _ (lines c.args.self.now.window) h

pub returns-in-Some-clause-shown : goal.returns-in-Some-clause-shown
returns-in-Some-clause-shown c es =
    let m = c.args.self.now in
    let ls = lines m.window in
    let i = c.in-Some.last in
    let last = subst (λ t. NoneBefore (λ x y. newer y x) t (Some i)) c.lines-lines.ensures c.in-Some.ensures in
    let full : length ls ≡ 12 = omega (arith, most-held m.window, m.twelve) in
    c.take_out.ensures.shown es
    ∙ ap (λ t. showing t (view es m)) (
    sym (in_order-removed es _ ls)
    ∙ ap (λ t. in_order es (removed (get_or t i free).number ls)) c.lines-lines.ensures
    ∙ made_room es ls i free m.window.distinct full last
    )
