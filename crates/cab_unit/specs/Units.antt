-- A unit as whoever calls it sees it, on an end of which `meaning` is what its make says of itself.
use Rattle.std.specs.Prelude.{◌≡◌, IsSome, None, Option, MatchResult, Result}
use Rattle.train_end.specs.declared.end.TrainEnd.{Ghosts as EndMeaning}
use Rattle.cab_unit.specs.Events.{Event}
use Rattle.cab_unit.specs.Refusing.{refusal}
use Rattle.cab_unit.specs.State.{State}
use Rattle.cab_unit.specs.Steps.{next, reply}
use Rattle.cab_unit.specs.View.{view}
use Rattle.cab_unit.specs.declared.unit.Unit.{Unit}
use Rattle.driver_desk.specs.declared.answer.Answer.{Answer}
use Rattle.driver_desk.specs.declared.refusal.Refusal.{Refusal}
use Rattle.driver_desk.specs.declared.train_record.Confirmed.{Confirmed}

-- the state of a unit
abbrev pub state_of : {E : Type 0} → EndMeaning E → Unit E → State
state_of meaning u = view meaning u.cab

-- its state after a call
abbrev pub after_call : {E : Type 0} → EndMeaning E → Event → Unit E → State
after_call meaning e u = next meaning.reading e (state_of meaning u)

-- its answer to a call
abbrev pub answer_to : {E : Type 0} → EndMeaning E → Event → Unit E → Answer
answer_to meaning e u = reply meaning.reading e (state_of meaning u)

-- the refusal that a call meets now, if any
abbrev pub refusal_now : {E : Type 0} → EndMeaning E → Event → Unit E → Option Refusal
refusal_now meaning e u = refusal e (state_of meaning u)

-- where a call is refused, each part of the unit stays as it was, its end too
abbrev pub StaysIf : {E : Type 0} → Option Refusal → Unit E → Unit E → Type 0
StaysIf r old new = IsSome r → new.cab ≡ old.cab

-- a taking: accepted, the answer; refused, the answer and the record that was handed over
abbrev pub TakenOrBack : Option Refusal → Answer → Confirmed → Result Answer (Answer × Confirmed) → Type 0
TakenOrBack r a confirmed result = MatchResult result
    (λ b. (b ≡ a) × (r ≡ None))
    (λ b. (b.0 ≡ a) × IsSome r × (b.1 ≡ confirmed))
