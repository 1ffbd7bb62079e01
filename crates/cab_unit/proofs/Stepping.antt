-- The facts hold after a call, and of a unit just switched on.
use Rattle.std.proofs.Common.{◌≡◌, ℕ, false, List, [], None, Option, sym, ap, ◌∙◌, subst}
use mathlib.Core.Logic.{∥∥₁_map}
use Rattle.train_end.specs.declared.brake_line.BrakeLine.{BrakeLine}
use Rattle.telegram.specs.declared.modes.Mode.TheVariants.{Standby}
use Rattle.cab_unit.specs.Events.{Event}
use Rattle.cab_unit.specs.Facts.{Facts}
use Rattle.cab_unit.specs.Line.{settled}
use Rattle.cab_unit.specs.Places.{ordered}
use Rattle.cab_unit.specs.State.{State}
use Rattle.cab_unit.specs.View.{bare}
use Rattle.cab_unit.specs.declared.cab.Cab.{Cab}
use Rattle.cab_unit.specs.Steps.{next, switched_on}
use Rattle.driver_desk.specs.declared.level.Level.TheVariants.{Zero}
use Rattle.driver_desk.specs.declared.request.Request.{Request}
use Rattle.cab_unit.proofs.Facts.{facts_on, facts_step}

module _ (reads : List ℕ → Option ℕ) (e : Event) (s : State) where
  -- the facts of a state hold after a call
  pub facts_after : (t : State) → ∥ Facts s ∥₁ → t ≡ next reads e s → ∥ Facts t ∥₁
  facts_after t f h = ∥∥₁_map f (λ k. subst Facts (sym h) (facts_step reads e s k))

-- a new unit, settled, is one just switched on, whatever its end's line was
pub switched_on_lem : (speed : Option ℕ) (l : List Request) (line : BrakeLine) (t : State) → l ≡ [] →
    t ≡ settled (record { desk = record { mode = Standby; level = Zero; authority = false; pending = false; silence = 0 }; train = None; cycle = 0; waiting = l; speed = speed; line = line }) →
    t ≡ switched_on speed
unfolding settled
switched_on_lem speed l line t e h =
    h ∙ ap (λ k. settled (record { desk = record { mode = Standby; level = Zero; authority = false; pending = false; silence = 0 }; train = None; cycle = 0; waiting = k; speed = speed; line = line })) e

pub facts_new : (speed : Option ℕ) (t : State) → t ≡ switched_on speed → ∥ Facts t ∥₁
facts_new speed t h = ∣ subst Facts (sym h) (facts_on speed) ∣₁

-- the facts of a cab hold of one that is the same
pub facts_kept : {E : Type 0} (a b : Cab E) → a ≡ b → ∥ Facts (bare b.desk (ordered b.waiting.items)) ∥₁ → ∥ Facts (bare a.desk (ordered a.waiting.items)) ∥₁
facts_kept a b h f = subst (λ k. ∥ Facts (bare k.desk (ordered k.waiting.items)) ∥₁) (sym h) f
