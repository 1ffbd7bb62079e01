-- One call: the state after it, and the answer.
use Rattle.std.specs.Prelude.{ℕ, false, List, [], length, Some, None, Option}
use Rattle.telegram.specs.declared.modes.Mode.TheVariants.{Standby}
use Rattle.train_end.specs.declared.brake_line.BrakeLine.TheVariants.{Emergency}
use Rattle.cab_unit.specs.Buttons.{button_numbered, buttons_of}
use Rattle.cab_unit.specs.Cycles.{cycle_change}
use Rattle.cab_unit.specs.Events.{Event, Event.cycle, Event.order, Event.press, Event.take}
use Rattle.cab_unit.specs.Line.{settled}
use Rattle.cab_unit.specs.Moves.{Change, quiet}
use Rattle.cab_unit.specs.Orders.{order_change}
use Rattle.cab_unit.specs.Presses.{pressed}
use Rattle.cab_unit.specs.Refusing.{refusal}
use Rattle.driver_desk.specs.Requests.{first_of}
use Rattle.cab_unit.specs.State.{State}
use Rattle.driver_desk.specs.declared.answer.Answer.{Answer}
use Rattle.driver_desk.specs.declared.level.Level.TheVariants.{Zero}
use Rattle.driver_desk.specs.declared.refusal.Refusal.{Refusal}
use Rattle.driver_desk.specs.declared.request.Request.{Request}
use Rattle.driver_desk.specs.declared.train_record.TrainRecord.{TrainRecord}

-- the newer record counts
abbrev pub with_train : TrainRecord → State → State
with_train t s = record s { train = Some t }

-- what an accepted call does, on an end whose reading is `reads`
abbrev pub changed : (List ℕ → Option ℕ) → Event → State → Change
changed reads (cycle block) s = cycle_change (reads block) s
changed reads (order o) s = order_change o s
changed reads (press n) s = pressed (button_numbered n) s
changed reads (take t) s = quiet (with_train t s)

abbrev pub answering : Option Refusal → Option Request → Option Request → ℕ → State → Answer
answering outcome raised acknowledged withdrawn s = record {
  outcome = outcome;
  mode = s.desk.mode;
  level = s.desk.level;
  line = s.line;
  buttons = buttons_of s;
  waiting = length s.waiting;
  first = first_of s.waiting;
  raised = raised;
  acknowledged = acknowledged;
  withdrawn = withdrawn;
}

-- refused: the state as if it had not been called, and nothing to tell but the refusal
abbrev pub state_at : Option Refusal → State → Change → State
state_at None s h = settled h.state
state_at (Some r) s h = s

abbrev pub answer_at : Option Refusal → State → Change → Answer
answer_at None s h = answering None h.raising h.ended h.withdrawn (settled h.state)
answer_at (Some r) s h = answering (Some r) None None 0 s

abbrev pub next : (List ℕ → Option ℕ) → Event → State → State
next reads e s = state_at (refusal e s) s (changed reads e s)

abbrev pub reply : (List ℕ → Option ℕ) → Event → State → Answer
reply reads e s = answer_at (refusal e s) s (changed reads e s)

-- a unit just switched on, on an end with this speed
abbrev pub switched_on : Option ℕ → State
switched_on speed = settled (record {
  desk = record { mode = Standby; level = Zero; authority = false; pending = false; silence = 0 };
  train = None;
  cycle = 0;
  waiting = [];
  speed = speed;
  line = Emergency;
})

-- what a unit just switched on shows, on an end with this speed
abbrev pub answer_on : Option ℕ → Answer
answer_on speed = answering None None None 0 (switched_on speed)
