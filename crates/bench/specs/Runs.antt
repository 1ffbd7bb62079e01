-- A list of calls on an unused unit, on an end told by its reading and its speed when switched on.
use Rattle.std.specs.Prelude.{ℕ, List, [], ◌∷◌, Option}
use Rattle.cab_unit.specs.Events.{Event}
use Rattle.cab_unit.specs.State.{State}
use Rattle.cab_unit.specs.Steps.{next, reply, switched_on}
use Rattle.driver_desk.specs.declared.answer.Answer.{Answer}

-- the last state of a run, by its step
abbrev pub last_by : {C S : Type 0} → (C → S → S) → List C → S → S
last_by step [] s = s
last_by step (c ∷ cs) s = last_by step cs (step c s)

-- what a run gives, call by call
abbrev pub out_by : {C S A : Type 0} → (C → S → S) → (C → S → A) → List C → S → List A
out_by step out [] s = []
out_by step out (c ∷ cs) s = out c s ∷ out_by step out cs (step c s)

abbrev pub after : (List ℕ → Option ℕ) → List Event → State → State
after reads es s = last_by (next reads) es s

abbrev pub answers : (List ℕ → Option ℕ) → List Event → State → List Answer
answers reads es s = out_by (next reads) (reply reads) es s

-- the speed of the unit's own end after each call
abbrev pub speeds : (List ℕ → Option ℕ) → List Event → State → List (Option ℕ)
speeds reads es s = out_by (next reads) (λ e t. (next reads e t).speed) es s

-- the state at the end of a run on an unused unit, its answers, and its speeds
abbrev pub final_state : (List ℕ → Option ℕ) → Option ℕ → List Event → State
final_state reads speed es = after reads es (switched_on speed)

abbrev pub all_answers : (List ℕ → Option ℕ) → Option ℕ → List Event → List Answer
all_answers reads speed es = answers reads es (switched_on speed)

abbrev pub all_speeds : (List ℕ → Option ℕ) → Option ℕ → List Event → List (Option ℕ)
all_speeds reads speed es = speeds reads es (switched_on speed)

-- a run: the reading of its end and the speed of that before, the calls, the answer to each, the speed that the unit's own end has
-- after each, and the state at the end
pub record Run : Type 0 where
  pub reads : List ℕ → Option ℕ
  pub before : Option ℕ
  pub calls : List Event
  pub answers : List Answer
  pub speeds : List (Option ℕ)
  pub last : State

-- the run that these calls make on an unused unit, on an end with this reading and this speed
abbrev pub run_of : (List ℕ → Option ℕ) → Option ℕ → List Event → Run
run_of reads speed es = record {
  reads = reads;
  before = speed;
  calls = es;
  answers = all_answers reads speed es;
  speeds = all_speeds reads speed es;
  last = final_state reads speed es;
}
