-- Which order is heard in which mode.
use Rattle.std.specs.Prelude.{Bool, true, false}
use Rattle.telegram.specs.declared.modes.Mode.{Mode}
use Rattle.telegram.specs.declared.modes.Mode.TheVariants.{Standby, StaffResponsible, FullSupervision, OnSight, LimitedSupervision, Shunting, Unfitted, Trip, PostTrip, SystemFailure}

-- before the train sets off it has to have been asked for
abbrev pub hears_authority : Mode → Bool → Bool
hears_authority Standby pending = pending
hears_authority StaffResponsible pending = true
hears_authority FullSupervision pending = true
hears_authority OnSight pending = true
hears_authority LimitedSupervision pending = true
hears_authority Shunting pending = false
hears_authority Unfitted pending = false
hears_authority Trip pending = false
hears_authority PostTrip pending = pending
hears_authority SystemFailure pending = false

abbrev pub hears_level : Mode → Bool
hears_level Standby = false
hears_level StaffResponsible = true
hears_level FullSupervision = true
hears_level OnSight = true
hears_level LimitedSupervision = true
hears_level Shunting = false
hears_level Unfitted = true
hears_level Trip = false
hears_level PostTrip = false
hears_level SystemFailure = false

abbrev pub hears_stop : Mode → Bool
hears_stop Standby = false
hears_stop StaffResponsible = true
hears_stop FullSupervision = true
hears_stop OnSight = true
hears_stop LimitedSupervision = true
hears_stop Shunting = false
hears_stop Unfitted = false
hears_stop Trip = false
hears_stop PostTrip = false
hears_stop SystemFailure = false

-- the modes that an authority can be for
abbrev pub is_listed : Mode → Bool
is_listed Standby = false
is_listed StaffResponsible = false
is_listed FullSupervision = true
is_listed OnSight = true
is_listed LimitedSupervision = true
is_listed Shunting = false
is_listed Unfitted = false
is_listed Trip = false
is_listed PostTrip = false
is_listed SystemFailure = false
