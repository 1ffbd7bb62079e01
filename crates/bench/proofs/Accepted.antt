-- When a call is accepted, and what that gives.
use Rattle.std.proofs.Common.{◌≡◌, ℕ, List, Some, None, Option, refl, ap}
use Rattle.cab_unit.specs.Events.{Event}
use Rattle.cab_unit.specs.Line.{settled}
use Rattle.cab_unit.specs.Moves.{Change}
use Rattle.cab_unit.specs.Refusing.{refusal}
use Rattle.cab_unit.specs.State.{State}
use Rattle.cab_unit.specs.Steps.{changed, state_at, answer_at, next}
use Rattle.driver_desk.specs.declared.refusal.Refusal.{Refusal}

-- an answer has the refusal for its outcome
pub outcome_is : (o : Option Refusal) (s : State) (h : Change) → (answer_at o s h).outcome ≡ o
outcome_is None s h = refl
outcome_is (Some r) s h = refl

-- an accepted call does what it says
pub heard : (reads : List ℕ → Option ℕ) (e : Event) (s : State) → refusal e s ≡ None → next reads e s ≡ settled (changed reads e s).state
heard reads e s h = ap (λ (o : Option Refusal). state_at o s (changed reads e s)) h
