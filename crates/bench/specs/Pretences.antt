-- What the laws refuse: an account that does not balance, a made-up count, an entry that was not confirmed once, two ends that differ.
use Rattle.std.specs.Prelude.{◌≡◌, ℕ, true, false, cond, List, [], ◌∷◌, Some, None, Option}
use Rattle.telegram.specs.Format.{OrderValue.withdrawal, OrderValue.sign}
use Rattle.telegram.specs.declared.modes.Mode.{Mode}
use Rattle.telegram.specs.declared.modes.Mode.TheVariants.{Standby, StaffResponsible, OnSight, LimitedSupervision, Shunting, Unfitted}
use Rattle.train_end.specs.declared.brake_line.BrakeLine.{BrakeLine}
use Rattle.train_end.specs.declared.brake_line.BrakeLine.TheVariants.{Released, Service}
use Rattle.cab_unit.specs.Events.{Event, Event.cycle, Event.order}
use Rattle.cab_unit.specs.State.{State}
use Rattle.driver_desk.specs.declared.answer.Answer.{Answer}
use Rattle.driver_desk.specs.declared.level.Level.{Level}
use Rattle.driver_desk.specs.declared.level.Level.TheVariants.{Zero, One}
use Rattle.driver_desk.specs.declared.refusal.Refusal.{Refusal}
use Rattle.driver_desk.specs.declared.refusal.Refusal.TheVariants.{NotHeard}
use Rattle.driver_desk.specs.declared.request.Class.TheVariants as class
use Rattle.driver_desk.specs.declared.request.Request.{Request}
use Rattle.driver_desk.specs.Requests.{is_for}
use Rattle.bench.specs.Book.{Book, new_book, FairAt}
use Rattle.bench.specs.Entries.{Entry}
use Rattle.bench.specs.Laws.{Balanced, Confirmed, EndEqual}
use Rattle.cab_unit.specs.Events.{is_cycle}
use Rattle.bench.specs.Likeness.{Told, Alike.ended, Alike.cycles, Alike.other}

abbrev pub text7 : Request
text7 = record { class = class.Text; number = 7; raised = 0; timed = true }

-- text 7 of another cycle, and without its mark
abbrev pub later7 : Request
later7 = record { class = class.Text; number = 7; raised = 1; timed = true }

abbrev pub untimed7 : Request
untimed7 = record { class = class.Text; number = 7; raised = 0; timed = false }

-- a state with this mode, level, waiting requests and line
abbrev pub standing : Mode → Level → List Request → BrakeLine → State
standing m l w b = record {
  desk = record { mode = m; level = l; authority = false; pending = false; silence = 0 };
  train = None;
  cycle = 60;
  waiting = w;
  speed = Some 0;
  line = b;
}

abbrev pub plain : State
plain = standing Standby Zero [] Released

-- an answer with this outcome, raised and acknowledged request, and count withdrawn
abbrev pub answered : Option Refusal → Option Request → Option Request → ℕ → Answer
answered o r a n = record {
  outcome = o;
  mode = Standby;
  level = Zero;
  line = Released;
  buttons = 0;
  waiting = 0;
  first = None;
  raised = r;
  acknowledged = a;
  withdrawn = n;
}

-- a book in which text 7 was raised once and never ended, and is not open
abbrev pub lost : Book
lost = record {
  mode = Standby;
  level = Zero;
  opened = [];
  raisings = λ c n. 1;
  acknowledgements = λ c n. 0;
  withdrawals = λ c n. 0;
}

-- a book in which these are open, and text 7 was raised so many times
abbrev pub holding : List Request → ℕ → Book
holding l k = record {
  mode = Standby;
  level = Zero;
  opened = l;
  raisings = λ c n. cond (is_for c n text7) k 0;
  acknowledgements = λ c n. 0;
  withdrawals = λ c n. 0;
}

-- a call as it is told, with a count withdrawn
abbrev pub heard : Event → ℕ → Told
heard e n = record { call = e; answer = answered None None None n; speed = Some 0 }

-- a mode that stood for 51 cycles and was confirmed so many times
abbrev pub stood51 : Mode → ℕ → Entry
stood51 m n = record { mode = m; stood = 51; asked = None; confirmed = n }

-- a text that waits and is not open; one that was raised and is gone; one that waits while that of another cycle is open; two of one
-- number. A made-up count; an acknowledgement of what is not open, or open with another cycle or mark; a withdrawal of a text that is not
-- open. A refused call that tells of a count, a raising or an acknowledgement.
abbrev pub NotByTheBook : Type 0
NotByTheBook =
    (Balanced new_book (standing Standby Zero (text7 ∷ []) Released) → ⊥)
    × (Balanced lost plain → ⊥)
    × (Balanced (holding (later7 ∷ []) 1) (standing Standby Zero (text7 ∷ []) Released) → ⊥)
    × (Balanced (holding (text7 ∷ text7 ∷ []) 2) (standing Standby Zero (text7 ∷ text7 ∷ []) Released) → ⊥)
    × (FairAt None (order sign) (answered None None None 1) new_book → ⊥)
    × (FairAt None (order sign) (answered None None (Some text7) 0) new_book → ⊥)
    × (FairAt None (order sign) (answered None None (Some text7) 0) (holding (later7 ∷ []) 1) → ⊥)
    × (FairAt None (order sign) (answered None None (Some text7) 0) (holding (untimed7 ∷ []) 1) → ⊥)
    × (FairAt None (order (withdrawal 7)) (answered None None None 0) new_book → ⊥)
    × (FairAt (Some NotHeard) (order sign) (answered (Some NotHeard) None None 1) new_book → ⊥)
    × (FairAt (Some NotHeard) (order sign) (answered (Some NotHeard) (Some text7) None 0) new_book → ⊥)
    × (FairAt (Some NotHeard) (order sign) (answered (Some NotHeard) None (Some text7) 0) new_book → ⊥)

-- On Sight, Limited Supervision, Staff Responsible and Unfitted with the line released after 51 cycles, confirmed never, or On Sight twice
abbrev pub NotConfirmedOnce : Type 0
NotConfirmedOnce =
    (Confirmed (stood51 OnSight 0) (standing OnSight One [] Released) → ⊥)
    × (Confirmed (stood51 LimitedSupervision 0) (standing LimitedSupervision One [] Released) → ⊥)
    × (Confirmed (stood51 StaffResponsible 0) (standing StaffResponsible One [] Released) → ⊥)
    × (Confirmed (stood51 Unfitted 0) (standing Unfitted Zero [] Released) → ⊥)
    × (Confirmed (stood51 OnSight 2) (standing OnSight One [] Released) → ⊥)

-- two ends with another mode, level, waiting request or line; a cycle, and another call, that are answered otherwise
abbrev pub NotEqualEnds : Type 0
NotEqualEnds =
    (EndEqual ended plain (standing Shunting Zero [] Released) → ⊥)
    × (EndEqual ended plain (standing Standby One [] Released) → ⊥)
    × (EndEqual ended plain (standing Standby Zero (text7 ∷ []) Released) → ⊥)
    × (EndEqual ended plain (standing Standby Zero [] Service) → ⊥)
    × ((p : is_cycle (cycle []) ≡ true) (v : (heard (cycle []) 0).speed ≡ (heard (cycle []) 1).speed) →
    EndEqual (cycles {x = heard (cycle []) 0} {y = heard (cycle []) 1} p p v ended) plain plain → ⊥)
    × ((p : is_cycle (order sign) ≡ false) (q : (heard (order sign) 0).call ≡ (heard (order sign) 1).call) →
    EndEqual (other {x = heard (order sign) 0} {y = heard (order sign) 1} p q ended) plain plain → ⊥)
