-- The numbers of levels, classes and refusals.
use Rattle.std.specs.Prelude.{ℕ, Bool, cond, Some, None, Option, Ok, Err, Result, ◌==◌, nat_le}
use Rattle.telegram.specs.Modes.{mode_code}
use Rattle.telegram.specs.declared.modes.Mode.{Mode}
use Rattle.driver_desk.specs.declared.level.Level.{Level}
use Rattle.driver_desk.specs.declared.level.Level.TheVariants.{Zero, One, Two}
use Rattle.driver_desk.specs.declared.request.Class.{Class}
use Rattle.driver_desk.specs.declared.request.Class.TheVariants as class
use Rattle.driver_desk.specs.declared.refusal.Refusal.{Refusal}
use Rattle.driver_desk.specs.declared.refusal.Refusal.TheVariants.{NoSuchButton, ButtonNotEnabled, DriverNumber, TrainLength, BrakePercentage, MaximumSpeed, RecordNotTaken, OutsideList, NotHeard, TextWaits, TwelveTextsWait, NoSuchText, TextOverdue, InSystemFailure}

abbrev pub level_number : Level → ℕ
level_number Zero = 0
level_number One = 1
level_number Two = 2

-- the level with a number up to 2
abbrev pub level_of : ℕ → Level
level_of n = cond (n == 0) Zero (cond (n == 1) One Two)

-- the level with a number; those above 2 are outside the list
abbrev pub listed_level : ℕ → Result Level Refusal
listed_level n = cond (nat_le n 2) (Ok (level_of n)) (Err OutsideList)

abbrev pub class_number : Class → ℕ
class_number class.Trip = 0
class_number class.Mode = 1
class_number class.Level = 2
class_number class.Hold = 3
class_number class.Text = 4

-- 1 and 2 refuse a press: there is no such button, or it is not enabled;
-- 10 to 13 a draft, for its driver number, length, brake percentage or maximum speed;
-- 14 a record that is not taken now;
-- 23 and 30 an order: its mode or level is none of the list, or it is not heard now;
-- 31 and 32 a text: it waits already, or twelve others do;
-- 33 and 34 a withdrawal: the text does not wait, or it is overdue;
-- 40 every call, in System Failure
abbrev pub refusal_number : Refusal → ℕ
refusal_number NoSuchButton = 1
refusal_number ButtonNotEnabled = 2
refusal_number DriverNumber = 10
refusal_number TrainLength = 11
refusal_number BrakePercentage = 12
refusal_number MaximumSpeed = 13
refusal_number RecordNotTaken = 14
refusal_number OutsideList = 23
refusal_number NotHeard = 30
refusal_number TextWaits = 31
refusal_number TwelveTextsWait = 32
refusal_number NoSuchText = 33
refusal_number TextOverdue = 34
refusal_number InSystemFailure = 40

-- 0 is accepted
abbrev pub outcome_number : Option Refusal → ℕ
outcome_number None = 0
outcome_number (Some r) = refusal_number r

abbrev pub is_mode : Mode → Mode → Bool
is_mode a b = mode_code a == mode_code b

abbrev pub is_level : Level → Level → Bool
is_level a b = level_number a == level_number b
