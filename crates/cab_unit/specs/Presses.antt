-- What each press does.
use Rattle.std.specs.Prelude.{ℕ, ◌+◌, true, false, cond, not, ◌&&◌, List, Some, None, filter, Option, ◌==◌}
use Rattle.telegram.specs.declared.modes.Mode.{Mode}
use Rattle.telegram.specs.Modes.{mode_code}
use Rattle.telegram.specs.declared.modes.Mode.TheVariants.{Standby, StaffResponsible, Shunting, Unfitted, PostTrip}
use Rattle.cab_unit.specs.Moves.{with_mode, with_level, with_authority, with_pending, on_desk, on_waiting, entered, withdrawn_at, Change, change, quiet, raising}
use Rattle.driver_desk.specs.Numbers.{is_level}
use Rattle.driver_desk.specs.Requests.{of_class, not_of_class, number_of, first_of, rest_of}
use Rattle.cab_unit.specs.State.{State}
use Rattle.cab_unit.specs.declared.button.Button.{Button}
use Rattle.cab_unit.specs.declared.button.Button.TheVariants as button
use Rattle.driver_desk.specs.declared.level.Level.TheVariants.{One, Two}
use Rattle.driver_desk.specs.declared.request.Class.TheVariants as class
use Rattle.driver_desk.specs.declared.request.Request.{Request}

-- the mode that an acknowledgement enters, if any: Post Trip for a trip, its own mode for an untimed mode request
abbrev pub enters_by : Request → Option Mode
enters_by r =
    cond (of_class class.Trip r) (Some PostTrip)
    (cond (of_class class.Mode r && not r.timed) (Some (cond (r.number == mode_code Unfitted) Unfitted StaffResponsible)) None)

abbrev pub entered_by : Option Request → Option Mode
entered_by None = None
entered_by (Some r) = enters_by r

abbrev pub entered_if : Option Mode → State → State
entered_if None s = s
entered_if (Some m) s = entered m s

abbrev pub withdrawn_if : Option Mode → State → ℕ
withdrawn_if None s = 0
withdrawn_if (Some m) s = withdrawn_at m s

-- the request in front goes, and with it may come a mode
unfoldable pub acknowledge_change : State → Change
acknowledge_change s =
    change (entered_if (entered_by (first_of s.waiting)) (on_waiting rest_of s)) None (first_of s.waiting)
    (withdrawn_if (entered_by (first_of s.waiting)) (on_waiting rest_of s))

-- Start: at level 2 it is pending, at 1 Staff Responsible and at 0 Unfitted is asked for
unfoldable pub start_change : State → Change
start_change s =
    cond (is_level s.desk.level Two) (quiet (on_desk (with_pending true) s))
    (cond (is_level s.desk.level One) (raising class.Mode (mode_code StaffResponsible) false s 0)
    (raising class.Mode (mode_code Unfitted) false s 0))

abbrev pub without_train : State → State
without_train s = record s { train = None }

abbrev pub stays_closed : List Request → List Request
stays_closed l = filter (not_of_class class.Text) (filter (not_of_class class.Level) (filter (not_of_class class.Mode) l))

-- the desk is left as the next driver may find it; a hold stays
unfoldable pub close_change : State → Change
close_change s =
    change (on_waiting stays_closed (on_desk (λ d. with_pending false (with_authority false (with_mode Standby d))) (without_train s))) None None
    (number_of class.Mode s.waiting + number_of class.Level s.waiting + number_of class.Text s.waiting)

-- a button to a row
unfoldable pub press_change : Button → State → Change
press_change button.Acknowledge s = acknowledge_change s
press_change button.Start s = start_change s
press_change button.Shunting s = change (entered Shunting s) None None (withdrawn_at Shunting s)
press_change button.ExitShunting s = change (entered Standby s) None None (withdrawn_at Standby s)
press_change button.Override s = change (on_desk (with_authority false) (entered StaffResponsible s)) None None (withdrawn_at StaffResponsible s)
press_change (button.Level l) s = quiet (on_desk (with_level l) s)
press_change button.CloseDesk s = close_change s

-- a number that is no button's does nothing, and is refused
abbrev pub pressed : Option Button → State → Change
pressed None s = quiet s
pressed (Some b) s = press_change b s
