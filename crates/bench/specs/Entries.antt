-- The last entry of a mode, from the calls and their answers alone.
use Rattle.std.specs.Prelude.{ℕ, ◌+◌, Bool, true, false, cond, ◌||◌, List, [], ◌∷◌, Some, None, Option, ◌==◌}
use Rattle.telegram.specs.declared.modes.Mode.{Mode}
use Rattle.telegram.specs.declared.modes.Mode.TheVariants.{Standby, StaffResponsible, OnSight, LimitedSupervision, Unfitted}
use Rattle.cab_unit.specs.Events.{Event, Event.cycle, Event.order, Event.press, Event.take}
use Rattle.driver_desk.specs.Numbers.{is_mode}
use Rattle.driver_desk.specs.declared.answer.Answer.{Answer}
use Rattle.driver_desk.specs.declared.refusal.Refusal.{Refusal}
use Rattle.driver_desk.specs.declared.request.Request.{Request}
use Rattle.bench.specs.Book.{identical}

-- the mode that stands, how many cycles it has stood, the request that its entry raised,
-- and how many acknowledgements and Overrides the driver made for that entry
pub record Entry : Type 0 where
  pub mode : Mode
  pub stood : ℕ
  pub asked : Option Request
  pub confirmed : ℕ

abbrev pub no_entry : Entry
no_entry = record { mode = Standby; stood = 0; asked = None; confirmed = 0 }

-- the cycle number grows by 1 at an accepted cycle; at the last number it stays, but then System Failure is entered
abbrev pub cycles_of : Event → ℕ
cycles_of (cycle block) = 1
cycles_of (order o) = 0
cycles_of (press n) = 0
cycles_of (take t) = 0

-- Override confirms the mode that it brings in
abbrev pub overrides : Event → ℕ
overrides (cycle block) = 0
overrides (order o) = 0
overrides (press n) = cond (n == 5) 1 0
overrides (take t) = 0

-- so does an acknowledgement that brings a mode in
abbrev pub acknowledges : Option Request → ℕ
acknowledges None = 0
acknowledges (Some r) = 1

-- and one that ends the request with which the mode came in
abbrev pub answers_for : Option Request → Option Request → ℕ
answers_for None asked = 0
answers_for (Some r) None = 0
answers_for (Some r) (Some q) = cond (identical r q) 1 0

-- a call makes an entry where another mode stands after it than before
abbrev pub entering : Bool → Event → Answer → Entry → Entry
entering true e a t = record { mode = a.mode; stood = t.stood + cycles_of e; asked = t.asked; confirmed = t.confirmed + answers_for a.acknowledged t.asked }
entering false e a t = record { mode = a.mode; stood = 0; asked = a.raised; confirmed = acknowledges a.acknowledged + overrides e }

abbrev pub entry_at : Option Refusal → Event → Answer → Entry → Entry
entry_at None e a t = entering (is_mode t.mode a.mode) e a t
entry_at (Some r) e a t = t

abbrev pub entered : Event → Answer → Entry → Entry
entered e a t = entry_at a.outcome e a t

abbrev pub entry_of : List Event → List Answer → Entry → Entry
entry_of [] as' t = t
entry_of (e ∷ es) [] t = t
entry_of (e ∷ es) (a ∷ as') t = entry_of es as' (entered e a t)

-- On Sight, Limited Supervision, Staff Responsible or Unfitted
abbrev pub confirmable : Mode → Bool
confirmable m = is_mode m OnSight || is_mode m LimitedSupervision || is_mode m StaffResponsible || is_mode m Unfitted
