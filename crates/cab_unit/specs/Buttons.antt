-- Which button is enabled.
use Rattle.std.specs.Prelude.{◌≡◌, ℕ, ◌+◌, Bool, false, cond, not, ◌&&◌, ◌||◌, is_some, Some, None, Option, Result, MatchResult, ◌==◌, nat_le}
use Rattle.telegram.specs.declared.modes.Mode.{Mode}
use Rattle.telegram.specs.declared.modes.Mode.TheVariants.{Standby, FullSupervision, OnSight, LimitedSupervision, Shunting, Trip, PostTrip, SystemFailure}
use Rattle.cab_unit.specs.declared.button.Button.{Button}
use Rattle.cab_unit.specs.declared.button.Grounds.{Grounds}
use Rattle.cab_unit.specs.declared.button.Button.TheVariants as button
use Rattle.driver_desk.specs.Numbers.{is_mode, level_number}
use Rattle.driver_desk.specs.Requests.{of_class, number_of, first_of}
use Rattle.cab_unit.specs.State.{State, standing, crawling}
use Rattle.driver_desk.specs.declared.level.Level.TheVariants.{Zero, One, Two}
use Rattle.driver_desk.specs.declared.request.Class.TheVariants as class
use Rattle.driver_desk.specs.declared.refusal.Refusal.{Refusal}
use Rattle.driver_desk.specs.declared.refusal.Refusal.TheVariants.{NoSuchButton}
use Rattle.driver_desk.specs.declared.request.Request.{Request}

-- Full Supervision, On Sight or Limited Supervision
abbrev pub supervised : Mode → Bool
supervised m = is_mode m FullSupervision || is_mode m OnSight || is_mode m LimitedSupervision

-- Standby or Post Trip
abbrev pub startable : Mode → Bool
startable m = is_mode m Standby || is_mode m PostTrip

-- no request of class mode waits
abbrev pub unasked : State → Bool
unasked s = number_of class.Mode s.waiting == 0

-- what the Level buttons and the taking of a record need
abbrev pub settable : State → Bool
settable s = is_mode s.desk.mode Standby && standing s.speed && unasked s && not s.desk.pending

-- a trip and a hold have stopped the train, so it stands first
abbrev pub acknowledgeable : Bool → Option Request → Bool
acknowledgeable stands None = false
acknowledgeable stands (Some r) = stands || not (of_class class.Trip r || of_class class.Hold r)

-- the buttons have the numbers 1 to 9
abbrev pub button_numbered : ℕ → Option Button
button_numbered n =
    cond (n == 1) (Some button.Acknowledge)
    (cond (n == 2) (Some button.Start)
    (cond (n == 3) (Some button.Shunting)
    (cond (n == 4) (Some button.ExitShunting)
    (cond (n == 5) (Some button.Override)
    (cond (n == 6) (Some (button.Level Zero))
    (cond (n == 7) (Some (button.Level One))
    (cond (n == 8) (Some (button.Level Two))
    (cond (n == 9) (Some button.CloseDesk)
    None))))))))

-- the button with this number, or the refusal of a number that is no button's
abbrev pub ButtonNumbered : ℕ → Result Button Refusal → Type 0
ButtonNumbered n result =
    MatchResult result (λ b. button_numbered n ≡ Some b) (λ e. (e ≡ NoSuchButton) × (button_numbered n ≡ None))

-- what the nine buttons ask of the requests and the speed
abbrev pub grounds_of : State → Grounds
grounds_of s = record {
  first = first_of s.waiting;
  stands = standing s.speed;
  crawls = crawling s.speed;
  free = startable s.desk.mode && standing s.speed && unasked s;
}

unfoldable pub enabled : Button → State → Bool
enabled button.Acknowledge s = acknowledgeable (standing s.speed) (first_of s.waiting)
enabled button.Start s = startable s.desk.mode && standing s.speed && is_some s.train && unasked s && not s.desk.pending
enabled button.Shunting s = is_mode s.desk.mode Standby && standing s.speed && nat_le (level_number s.desk.level) 1 && unasked s
enabled button.ExitShunting s = is_mode s.desk.mode Shunting && standing s.speed
enabled button.Override s = supervised s.desk.mode && crawling s.speed
enabled (button.Level l) s = settable s
enabled button.CloseDesk s = standing s.speed && not (is_mode s.desk.mode Trip) && not (is_mode s.desk.mode SystemFailure)

-- what an enabled button adds
abbrev pub bit_of : Button → ℕ → State → ℕ
bit_of b weight s = cond (enabled b s) weight 0

-- the enabled buttons in one number: Acknowledge counts 1, each further button twice the one before
-- it, Close desk 256
unfoldable pub buttons_of : State → ℕ
buttons_of s =
    bit_of button.Acknowledge 1 s + bit_of button.Start 2 s + bit_of button.Shunting 4 s
    + bit_of button.ExitShunting 8 s + bit_of button.Override 16 s
    + bit_of (button.Level Zero) 32 s + bit_of (button.Level One) 64 s + bit_of (button.Level Two) 128 s
    + bit_of button.CloseDesk 256 s
