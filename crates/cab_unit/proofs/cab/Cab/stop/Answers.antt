use Rattle.std.proofs.Common.{refl}
use Rattle.telegram.specs.declared.modes.Mode.TheVariants.{Trip}
use Rattle.driver_desk.specs.declared.request.Class.TheVariants as class
use Rattle.cab_unit.proofs.Alone.{entered_alone}
use Rattle.cab_unit.proofs.cab.Cab.stop.Goals as goal

pub raise_alone-request-requires : goal.raise_alone-request-requires
raise_alone-request-requires g c = entered_alone class.Trip Trip _ _ c.enter-withdrawn.ensures.state refl c.requires
