-- Which refusal a call meets, if any.
use Rattle.std.specs.Prelude.{ℕ, Bool, true, false, cond, ◌&&◌, is_some, Some, None, Option, nat_le}
use Rattle.telegram.specs.Format.{OrderValue, OrderValue.authority, OrderValue.level, OrderValue.text, OrderValue.withdrawal, OrderValue.stop, OrderValue.sign, OrderValue.permission}
use Rattle.telegram.specs.declared.modes.Mode.TheVariants.{SystemFailure}
use Rattle.cab_unit.specs.Buttons.{button_numbered, enabled, settable}
use Rattle.cab_unit.specs.declared.button.Button.{Button}
use Rattle.cab_unit.specs.Events.{Event, Event.cycle, Event.order, Event.press, Event.take}
use Rattle.cab_unit.specs.Heard.{hears_authority, hears_level, hears_stop, is_listed}
use Rattle.driver_desk.specs.Needing.{needing}
use Rattle.driver_desk.specs.Numbers.{is_mode}
use Rattle.driver_desk.specs.Records.{record_refusal}
use Rattle.driver_desk.specs.Requests.{is_for, overdue, waits, number_of}
use Rattle.driver_desk.specs.Sorting.{some}
use Rattle.cab_unit.specs.State.{State}
use Rattle.cab_unit.specs.declared.limits.TheConstants.{MOST_TEXTS}
use Rattle.driver_desk.specs.declared.request.Class.TheVariants as class
use Rattle.driver_desk.specs.declared.refusal.Refusal.{Refusal}
use Rattle.driver_desk.specs.declared.refusal.Refusal.TheVariants.{NoSuchButton, ButtonNotEnabled, RecordNotTaken, OutsideList, NotHeard, TextWaits, TwelveTextsWait, NoSuchText, TextOverdue, InSystemFailure}

abbrev pub overdue_text : ℕ → State → Bool
overdue_text n s = some (λ r. is_for class.Text n r && overdue s.cycle r) s.waiting

-- a text that is shown only takes no place among those that wait
abbrev pub text_refusal : ℕ → Bool → State → Option Refusal
text_refusal n false s = None
text_refusal n true s =
    cond (waits class.Text n s.waiting) (Some TextWaits)
    (cond (nat_le MOST_TEXTS (number_of class.Text s.waiting)) (Some TwelveTextsWait) None)

abbrev pub order_refusal : OrderValue → State → Option Refusal
order_refusal (authority m) s = needing (is_listed m) OutsideList (needing (hears_authority s.desk.mode s.desk.pending) NotHeard None)
order_refusal (level l) s = needing (nat_le l 2) OutsideList (needing (hears_level s.desk.mode) NotHeard None)
order_refusal (text n wanted t) s = text_refusal n wanted s
order_refusal (withdrawal n) s = needing (waits class.Text n s.waiting) NoSuchText (cond (overdue_text n s) (Some TextOverdue) None)
order_refusal stop s = needing (hears_stop s.desk.mode) NotHeard None
order_refusal sign s = None
order_refusal permission s = needing s.desk.pending NotHeard None

abbrev pub press_refusal : Option Button → State → Option Refusal
press_refusal None s = Some NoSuchButton
press_refusal (Some b) s = needing (enabled b s) ButtonNotEnabled None

-- numbers that no draft takes are refused by the draft's refusal; a confirmed record has none of these
abbrev pub call_refusal : Event → State → Option Refusal
call_refusal (cycle block) s = None
call_refusal (order o) s = order_refusal o s
call_refusal (press n) s = press_refusal (button_numbered n) s
call_refusal (take t) s = cond (is_some (record_refusal t)) (record_refusal t) (needing (settable s) RecordNotTaken None)

abbrev pub failed : State → Bool
failed s = is_mode s.desk.mode SystemFailure

-- a failed unit judges nothing else
abbrev pub refusal : Event → State → Option Refusal
refusal e s = cond (failed s) (Some InSystemFailure) (call_refusal e s)
