-- What it tells that a call is not refused.
use Rattle.std.proofs.Common.{◌≡◌, Bool, true, false, cond, ◌&&◌, ◌||◌, Some, None, Option, sym, refl}
use Rattle.std.proofs.lemmas.Option.{none-some}
use Rattle.telegram.specs.declared.modes.Mode.{Mode}
use Rattle.telegram.specs.declared.modes.Mode.TheVariants.{Standby, StaffResponsible, FullSupervision, OnSight, LimitedSupervision, Shunting, Unfitted, Trip, PostTrip, SystemFailure}
use Rattle.cab_unit.specs.Buttons.{supervised, startable}
use Rattle.cab_unit.specs.Events.{Event}
use Rattle.cab_unit.specs.Heard.{hears_authority, hears_level, hears_stop, is_listed}
use Rattle.driver_desk.specs.Numbers.{is_mode}
use Rattle.driver_desk.specs.Needing.{needing}
use Rattle.cab_unit.specs.Refusing.{call_refusal, failed, refusal}
use Rattle.cab_unit.specs.State.{State}
use Rattle.driver_desk.specs.declared.refusal.Refusal.{Refusal}
use Rattle.driver_desk.specs.declared.refusal.Refusal.TheVariants.{InSystemFailure}

-- nothing comes of a test that would give something, and what follows gives nothing
pub cond-none : {X : Type 0} (b : Bool) (x : X) (o : Option X) → cond b (Some x) o ≡ None → (b ≡ false) × (o ≡ None)
cond-none true x o h = absurd (none-some x (sym h))
cond-none false x o h = (refl, h)

-- a test that had to pass has passed, and so have those after it
pub needing-none : (b : Bool) (r : Refusal) (o : Option Refusal) → needing b r o ≡ None → (b ≡ true) × (o ≡ None)
needing-none true r o h = (refl, h)
needing-none false r o h = absurd (none-some r (sym h))

-- an accepted call: the unit has not failed, and the call by itself is not refused
pub accepted : (e : Event) (s : State) → refusal e s ≡ None → (failed s ≡ false) × (call_refusal e s ≡ None)
accepted e s h = cond-none (failed s) InSystemFailure (call_refusal e s) h

-- the tables of modes as tests of the mode
pub authority_is : (m : Mode) (p : Bool) → hears_authority m p ≡ (is_mode m StaffResponsible || supervised m || (startable m && p))
authority_is Standby true = refl
authority_is Standby false = refl
authority_is StaffResponsible p = refl
authority_is FullSupervision p = refl
authority_is OnSight p = refl
authority_is LimitedSupervision p = refl
authority_is Shunting p = refl
authority_is Unfitted p = refl
authority_is Trip p = refl
authority_is PostTrip true = refl
authority_is PostTrip false = refl
authority_is SystemFailure p = refl

pub level_is : (m : Mode) → hears_level m ≡ (is_mode m StaffResponsible || supervised m || is_mode m Unfitted)
level_is Standby = refl
level_is StaffResponsible = refl
level_is FullSupervision = refl
level_is OnSight = refl
level_is LimitedSupervision = refl
level_is Shunting = refl
level_is Unfitted = refl
level_is Trip = refl
level_is PostTrip = refl
level_is SystemFailure = refl

pub stop_is : (m : Mode) → hears_stop m ≡ (is_mode m StaffResponsible || supervised m)
stop_is Standby = refl
stop_is StaffResponsible = refl
stop_is FullSupervision = refl
stop_is OnSight = refl
stop_is LimitedSupervision = refl
stop_is Shunting = refl
stop_is Unfitted = refl
stop_is Trip = refl
stop_is PostTrip = refl
stop_is SystemFailure = refl

pub listed_is : (m : Mode) → is_listed m ≡ supervised m
listed_is Standby = refl
listed_is StaffResponsible = refl
listed_is FullSupervision = refl
listed_is OnSight = refl
listed_is LimitedSupervision = refl
listed_is Shunting = refl
listed_is Unfitted = refl
listed_is Trip = refl
listed_is PostTrip = refl
listed_is SystemFailure = refl
