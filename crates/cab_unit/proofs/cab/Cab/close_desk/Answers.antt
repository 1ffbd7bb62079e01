use Rattle.std.proofs.Common.{◌≡◌, None, filter, refl, ap, ◌∙◌, arith, rules}
use Rattle.cab_unit.specs.Places.{ordered}
use Rattle.cab_unit.specs.Presses.{close_change}
use Rattle.driver_desk.specs.Requests.{number_of, not_of_class}
use Rattle.cab_unit.specs.View.{done}
use Rattle.driver_desk.specs.declared.request.Class.TheVariants as class
use Rattle.cab_unit.proofs.Queue.{number_other}
use Rattle.cab_unit.proofs.cab.Cab.close_desk.Goals as goal

pub returns : goal.returns
unfolding close_change
returns g c =
    let l = ordered c.args.self.now.waiting.items in
    let first = c.withdraw_class-modes.ensures.rest in
    let second = c.withdraw_class-levels.ensures.rest ∙ ap (filter (not_of_class class.Level)) first in
    let levels : c.withdraw_class-levels.result ≡ number_of class.Level l =
    c.withdraw_class-levels.ensures.number ∙ ap (number_of class.Level) first ∙ number_other class.Level class.Mode refl l in
    let texts : c.withdraw_class-texts.result ≡ number_of class.Text l =
    c.withdraw_class-texts.ensures.number ∙ ap (number_of class.Text) second ∙ number_other class.Text class.Level refl _ ∙ number_other class.Text class.Mode refl l in
    record { state = search rules; done = c.withdrawing.ensures ∙ ap (done None None) (omega (arith, c.withdraw_class-modes.ensures.number)) }
