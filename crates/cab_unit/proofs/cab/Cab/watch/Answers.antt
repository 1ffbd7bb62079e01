use Rattle.std.proofs.Common.{◌≡◌, false, refl, rules}
use Rattle.telegram.specs.declared.modes.Mode.TheVariants.{Trip}
use Rattle.driver_desk.specs.Numbers.{is_mode}
use Rattle.driver_desk.specs.declared.request.Class.TheVariants as class
use Rattle.cab_unit.proofs.Alone.{entered_alone}
use Rattle.cab_unit.proofs.cab.Cab.watch.Goals as goal

pub raise_alone-request-requires-in-FullSupervision : goal.raise_alone-request-requires-in-FullSupervision
raise_alone-request-requires-in-FullSupervision g c =
    let other : is_mode c.args.self.now.desk.mode Trip ≡ false = search rules in
    entered_alone class.Trip Trip _ _ c.enter-withdrawn.ensures.state refl (c.requires.untripped other)
