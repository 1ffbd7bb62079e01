-- Worked rows: what the window shows after a few calls that a reader can follow.
use Rattle.std.specs.Prelude.{◌≡◌, ℕ, true, List, [], ◌∷◌, ◌++◌, map, replicate, Some, None, Option}
use Rattle.telegram.specs.Format.{OrderValue.text, OrderValue.withdrawal}
use Rattle.telegram.specs.declared.modes.Mode.TheVariants.{Standby}
use Rattle.train_end.specs.declared.brake_line.BrakeLine.TheVariants.{Released}
use Rattle.driver_desk.specs.declared.answer.Answer.{Answer}
use Rattle.driver_desk.specs.declared.level.Level.TheVariants.{Zero}
use Rattle.driver_desk.specs.declared.refusal.Refusal.{Refusal}
use Rattle.driver_desk.specs.declared.refusal.Refusal.TheVariants.{TextWaits}
use Rattle.driver_desk.specs.declared.request.Class.{Class}
use Rattle.driver_desk.specs.declared.request.Class.TheVariants as class
use Rattle.driver_desk.specs.declared.request.Request.{Request}
use Rattle.cab_unit.specs.Events.{Event, Event.cycle, Event.order, Event.press}
use Rattle.messages.specs.Shown.{dark, after_calls, messages_of}

-- an answer in Standby that tells an outcome and what was acknowledged
abbrev pub telling : Option Refusal → Option Request → Answer
telling outcome acknowledged = record {
  outcome = outcome;
  mode = Standby;
  level = Zero;
  line = Released;
  buttons = 0;
  waiting = 0;
  first = None;
  raised = None;
  acknowledged = acknowledged;
  withdrawn = 0;
}

abbrev pub yes : Answer
yes = telling None None

abbrev pub no : Answer
no = telling (Some TextWaits) None

-- the request of a class and number was acknowledged
abbrev pub ending : Class → ℕ → Answer
ending c n = telling None (Some (record { class = c; number = n; raised = 0; timed = true }))

-- text n says its number and a byte that tells it from another text of that number
abbrev pub says : ℕ → ℕ → Event
says n b = order (text n true (n ∷ b ∷ []))

abbrev pub again : Event
again = cycle []

-- the top messages and the numbers of the lines, where all calls are accepted
abbrev pub tops : List Event → List (Option (List ℕ))
tops es = messages_of es (replicate 30 yes)

abbrev pub standing : List Event → List ℕ
standing es = map (λ l. l.number) (after_calls es (replicate 30 yes) dark).lines

-- Of one cycle the smaller number is on top, whichever came first. A text of a later cycle is on top. One of a number
-- that stands comes in its place. A list that ends ends the messages.
abbrev pub OrderRows : Type 0
OrderRows =
    (tops (says 4 0 ∷ says 9 0 ∷ []) ≡ Some (4 ∷ 0 ∷ []) ∷ Some (4 ∷ 0 ∷ []) ∷ [])
    × (tops (says 9 0 ∷ says 4 0 ∷ []) ≡ Some (9 ∷ 0 ∷ []) ∷ Some (4 ∷ 0 ∷ []) ∷ [])
    × (standing (says 4 0 ∷ says 9 0 ∷ []) ≡ standing (says 9 0 ∷ says 4 0 ∷ []))
    × (tops (says 4 0 ∷ again ∷ says 9 0 ∷ []) ≡ Some (4 ∷ 0 ∷ []) ∷ Some (4 ∷ 0 ∷ []) ∷ Some (9 ∷ 0 ∷ []) ∷ [])
    × (tops (says 4 0 ∷ says 4 1 ∷ []) ≡ Some (4 ∷ 0 ∷ []) ∷ Some (4 ∷ 1 ∷ []) ∷ [])
    × (standing (says 4 0 ∷ says 4 1 ∷ []) ≡ 4 ∷ [])
    × (messages_of (says 4 0 ∷ says 9 0 ∷ []) (yes ∷ []) ≡ Some (4 ∷ 0 ∷ []) ∷ [])
    × (messages_of [] (yes ∷ []) ≡ [])

-- twelve texts of one cycle, the smallest number first or last
abbrev pub upward : List Event
upward = says 1 0 ∷ says 2 0 ∷ says 3 0 ∷ says 4 0 ∷ says 5 0 ∷ says 6 0 ∷ says 7 0 ∷ says 8 0 ∷ says 9 0 ∷ says 10 0 ∷ says 11 0 ∷ says 12 0 ∷ []

abbrev pub downward : List Event
downward = says 12 0 ∷ says 11 0 ∷ says 10 0 ∷ says 9 0 ∷ says 8 0 ∷ says 7 0 ∷ says 6 0 ∷ says 5 0 ∷ says 4 0 ∷ says 3 0 ∷ says 2 0 ∷ says 1 0 ∷ []

-- Twelve stand. Where one more comes, the last makes room, which is the largest number of the earliest cycle and not the
-- one that came first or last. A text of a number that stands takes no other's room.
abbrev pub RoomRows : Type 0
RoomRows =
    (standing upward ≡ 1 ∷ 2 ∷ 3 ∷ 4 ∷ 5 ∷ 6 ∷ 7 ∷ 8 ∷ 9 ∷ 10 ∷ 11 ∷ 12 ∷ [])
    × (standing (upward ++ (again ∷ says 20 0 ∷ [])) ≡ 20 ∷ 1 ∷ 2 ∷ 3 ∷ 4 ∷ 5 ∷ 6 ∷ 7 ∷ 8 ∷ 9 ∷ 10 ∷ 11 ∷ [])
    × (standing (downward ++ (again ∷ says 20 0 ∷ [])) ≡ 20 ∷ 1 ∷ 2 ∷ 3 ∷ 4 ∷ 5 ∷ 6 ∷ 7 ∷ 8 ∷ 9 ∷ 10 ∷ 11 ∷ [])
    × (standing (says 5 1 ∷ again ∷ (upward ++ (says 20 0 ∷ []))) ≡ 1 ∷ 2 ∷ 3 ∷ 4 ∷ 5 ∷ 6 ∷ 7 ∷ 8 ∷ 9 ∷ 10 ∷ 11 ∷ 20 ∷ [])
    × (standing (says 40 0 ∷ again ∷ (upward ++ (says 20 0 ∷ []))) ≡ 1 ∷ 2 ∷ 3 ∷ 4 ∷ 5 ∷ 6 ∷ 7 ∷ 8 ∷ 9 ∷ 10 ∷ 11 ∷ 20 ∷ [])
    × (standing (upward ++ (says 12 1 ∷ [])) ≡ 1 ∷ 2 ∷ 3 ∷ 4 ∷ 5 ∷ 6 ∷ 7 ∷ 8 ∷ 9 ∷ 10 ∷ 11 ∷ 12 ∷ [])

-- A text that is withdrawn goes, and so does one that is acknowledged; a hold that is acknowledged takes none out. Close
-- desk clears the window.
abbrev pub GoneRows : Type 0
GoneRows =
    (tops (says 4 0 ∷ says 9 0 ∷ order (withdrawal 4) ∷ order (withdrawal 9) ∷ []) ≡ Some (4 ∷ 0 ∷ []) ∷ Some (4 ∷ 0 ∷ []) ∷ Some (9 ∷ 0 ∷ []) ∷ None ∷ [])
    × (messages_of (says 4 0 ∷ says 9 0 ∷ press 1 ∷ []) (yes ∷ yes ∷ ending class.Text 4 ∷ []) ≡ Some (4 ∷ 0 ∷ []) ∷ Some (4 ∷ 0 ∷ []) ∷ Some (9 ∷ 0 ∷ []) ∷ [])
    × (messages_of (says 0 0 ∷ press 1 ∷ []) (yes ∷ ending class.Hold 0 ∷ []) ≡ Some (0 ∷ 0 ∷ []) ∷ Some (0 ∷ 0 ∷ []) ∷ [])
    × (tops (says 4 0 ∷ says 9 0 ∷ press 9 ∷ []) ≡ Some (4 ∷ 0 ∷ []) ∷ Some (4 ∷ 0 ∷ []) ∷ None ∷ [])

-- A refused text does not come in, a refused withdrawal or Close desk takes none out, and a refused cycle does not count.
abbrev pub RefusedRows : Type 0
RefusedRows =
    (messages_of (says 4 0 ∷ says 2 0 ∷ []) (yes ∷ no ∷ []) ≡ Some (4 ∷ 0 ∷ []) ∷ Some (4 ∷ 0 ∷ []) ∷ [])
    × (messages_of (says 4 0 ∷ order (withdrawal 4) ∷ press 9 ∷ []) (yes ∷ no ∷ no ∷ []) ≡ Some (4 ∷ 0 ∷ []) ∷ Some (4 ∷ 0 ∷ []) ∷ Some (4 ∷ 0 ∷ []) ∷ [])
    × (messages_of (says 4 0 ∷ again ∷ says 9 0 ∷ []) (yes ∷ no ∷ yes ∷ []) ≡ Some (4 ∷ 0 ∷ []) ∷ Some (4 ∷ 0 ∷ []) ∷ Some (4 ∷ 0 ∷ []) ∷ [])
