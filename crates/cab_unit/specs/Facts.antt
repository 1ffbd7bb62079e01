-- Facts of every state that calls can reach.
use Rattle.std.specs.Prelude.{◌≡◌, ◌≤◌, Bool, true, false, cond, not, ◌&&◌, ◌||◌, List, [], ◌∷◌, ◌==◌}
use Rattle.std.specs.List.{AllByRecursion}
use Rattle.telegram.specs.declared.modes.Mode.{Mode}
use Rattle.telegram.specs.Modes.{mode_code}
use Rattle.telegram.specs.declared.modes.Mode.TheVariants.{Standby, StaffResponsible, Shunting, Unfitted, Trip, SystemFailure}
use Rattle.cab_unit.specs.Buttons.{startable}
use Rattle.cab_unit.specs.declared.limits.TheConstants.{MOST_TEXTS}
use Rattle.driver_desk.specs.Numbers.{is_mode, is_level}
use Rattle.driver_desk.specs.Requests.{before, of_class, is_for, number_of}
use Rattle.cab_unit.specs.State.{State}
use Rattle.cab_unit.specs.declared.desk.Desk.{Desk}
use Rattle.driver_desk.specs.declared.level.Level.TheVariants.{Zero, Two}
use Rattle.driver_desk.specs.declared.request.Class.TheVariants as class
use Rattle.driver_desk.specs.declared.request.Request.{Request}

-- no later one is before an earlier one
abbrev pub Rising : {X : Type 0} → (X → X → Bool) → List X → Type 0
Rising lt [] = Unit {0}
Rising lt (x ∷ xs) = AllByRecursion (λ y. lt y x ≡ false) xs × Rising lt xs

-- the same class and number
abbrev pub same_request : Request → Request → Bool
same_request r x = is_for r.class r.number x

-- at most one request for each class and number
abbrev pub Apart : List Request → Type 0
Apart [] = Unit {0}
Apart (r ∷ rs) = AllByRecursion (λ x. same_request r x ≡ false) rs × Apart rs

-- the texts that may wait, and at most one of each other class
abbrev pub Few : List Request → Type 0
Few l =
    (number_of class.Trip l ≤ 1) × (number_of class.Mode l ≤ 1) × (number_of class.Level l ≤ 1)
    × (number_of class.Hold l ≤ 1) × (number_of class.Text l ≤ MOST_TEXTS)

-- a trip waits only in Trip
abbrev pub TripsInTrip : State → Type 0
TripsInTrip s = is_mode s.desk.mode Trip ≡ false → number_of class.Trip s.waiting ≡ 0

-- a start is pending only in Standby or Post Trip, at level 2, with no mode request waiting
abbrev pub StartsPend : State → Type 0
StartsPend s = s.desk.pending ≡ true →
    (startable s.desk.mode ≡ true) × (is_level s.desk.level Two ≡ true) × (number_of class.Mode s.waiting ≡ 0)

-- Standby, Shunting, Unfitted or System Failure
abbrev pub zero_mode : Mode → Bool
zero_mode m = is_mode m Standby || is_mode m Shunting || is_mode m Unfitted || is_mode m SystemFailure

-- at level 0 no other mode stands, and Unfitted stands at no other level
abbrev pub LevelFits : Desk → Type 0
LevelFits d = (is_level d.level Zero ≡ true → zero_mode d.mode ≡ true) × (is_mode d.mode Unfitted ≡ true → is_level d.level Zero ≡ true)

-- an untimed mode request waits only in Standby or Post Trip: for Unfitted at level 0, for Staff Responsible at 1 and 2; a hold has number 0
abbrev pub fitting : Desk → Request → Bool
fitting d r =
    (not (of_class class.Mode r && not r.timed) || (startable d.mode && cond (is_level d.level Zero) (r.number == mode_code Unfitted) (r.number == mode_code StaffResponsible)))
    && (not (of_class class.Hold r) || r.number == 0)

abbrev pub Facts : State → Type 0
Facts s =
    TripsInTrip s
    × StartsPend s
    × LevelFits s.desk
    × AllByRecursion (λ r. fitting s.desk r ≡ true) s.waiting
    × Few s.waiting
    × Rising before s.waiting
    × Apart s.waiting
