-- What the facts of a state give a call, so that what it raises finds room.
use Rattle.std.proofs.Common.{◌≡◌, true, false, sym, ap, ◌∙◌, arith}
use mathlib.Core.Bool.{Bool-set}
use mathlib.Core.Logic.{∥∥₁_elim}
use native.Mathlib.Nat.{ℕ_set}
use Rattle.std.proofs.lemmas.Bool.Decides.{nat_tests}
use Rattle.telegram.specs.declared.modes.Mode.TheVariants.{StaffResponsible, Unfitted, Trip}
use Rattle.cab_unit.specs.Cycles.{counted}
use Rattle.cab_unit.specs.Facts.{Facts}
use Rattle.driver_desk.specs.Numbers.{is_mode, is_level}
use Rattle.driver_desk.specs.Requests.{waits, number_of}
use Rattle.cab_unit.specs.State.{State}
use Rattle.driver_desk.specs.declared.level.Level.TheVariants.{Zero}
use Rattle.driver_desk.specs.declared.request.Class.TheVariants as class
use Rattle.cab_unit.proofs.Facts.{holds_fit, no_hold}

-- outside Trip no trip waits
pub known_no_trip : (s : State) → ∥ Facts s ∥₁ → is_mode s.desk.mode Trip ≡ false → number_of class.Trip s.waiting ≡ 0
known_no_trip s t h = ∥∥₁_elim t (ℕ_set _ _) (λ f. f.0 h)

-- where no hold of number 0 waits, none does
pub known_no_hold : (s : State) → ∥ Facts s ∥₁ → waits class.Hold 0 s.waiting ≡ false → number_of class.Hold s.waiting ≡ 0
known_no_hold s t h = ∥∥₁_elim t (ℕ_set _ _) (λ f. no_hold s.waiting (holds_fit s.desk s.waiting f.3) h)

-- Unfitted stands at level 0 only
pub known_unfitted : (s : State) → ∥ Facts s ∥₁ → is_mode s.desk.mode Unfitted ≡ true → is_level s.desk.level Zero ≡ true
known_unfitted s t h = ∥∥₁_elim t (Bool-set _ _) (λ f. f.2.1 h)

-- at level 0 Staff Responsible does not stand
pub known_responsible : (s : State) → ∥ Facts s ∥₁ → is_level s.desk.level Zero ≡ true → is_mode s.desk.mode StaffResponsible ≡ false
known_responsible s t h = ∥∥₁_elim t (Bool-set _ _) (λ f. let z = f.2.0 h in grind (arith, nat_tests))

-- where a start is pending, no mode request waits
pub known_unasked : (s : State) → ∥ Facts s ∥₁ → s.desk.pending ≡ true → number_of class.Mode s.waiting ≡ 0
known_unasked s t h = ∥∥₁_elim t (ℕ_set _ _) (λ f. (f.1 h).2)

-- the count of silence leaves mode and requests, so what a moving train raises finds room
pub watch_room : (s t v : State) → ∥ Facts s ∥₁ → t.desk ≡ s.desk → t.waiting ≡ s.waiting → v ≡ counted t →
    (is_mode v.desk.mode Trip ≡ false → number_of class.Trip v.waiting ≡ 0) × (waits class.Hold 0 v.waiting ≡ false → number_of class.Hold v.waiting ≡ 0)
unfolding counted
watch_room s t v f d l p =
    let mode : v.desk.mode ≡ s.desk.mode = ap (λ x. x.desk.mode) p ∙ ap (λ x. x.mode) d in
    let rest : v.waiting ≡ s.waiting = ap (λ x. x.waiting) p ∙ l in (
      λ h. ap (number_of class.Trip) rest ∙ known_no_trip s f (ap (λ m. is_mode m Trip) (sym mode) ∙ h),
      λ h. ap (number_of class.Hold) rest ∙ known_no_hold s f (ap (waits class.Hold 0) (sym rest) ∙ h),
    )
