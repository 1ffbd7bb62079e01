-- A taking leaves the speed of the end.
use Rattle.std.proofs.Common.{◌≡◌, ℕ, List, Some, None, Option, refl, ap, ◌∙◌}
use Rattle.cab_unit.specs.Events.{Event.take}
use Rattle.cab_unit.specs.Line.{settled}
use Rattle.cab_unit.specs.Moves.{quiet}
use Rattle.cab_unit.specs.Refusing.{refusal}
use Rattle.cab_unit.specs.State.{State}
use Rattle.cab_unit.specs.Steps.{with_train, state_at, next, switched_on}
use Rattle.driver_desk.specs.declared.refusal.Refusal.{Refusal}
use Rattle.driver_desk.specs.declared.train_record.TrainRecord.{TrainRecord}

-- whether it is refused or not
speed_left : (o : Option Refusal) (t : TrainRecord) (s : State) → (state_at o s (quiet (with_train t s))).speed ≡ s.speed
unfolding settled
speed_left None t s = refl
speed_left (Some r) t s = refl

-- so a unit just switched on has the speed of its end after it
pub taking_keeps_speed : (reads : List ℕ → Option ℕ) (t : TrainRecord) (speed : Option ℕ) (s s' : State) → s ≡ switched_on speed → s' ≡ next reads (take t) s → s'.speed ≡ speed
unfolding settled
taking_keeps_speed reads t speed s s' on step = ap (λ x. x.speed) step ∙ speed_left (refusal (take t) s) t s ∙ ap (λ x. x.speed) on
