-- What a text asks of the driver.
use Rattle.std.proofs.Common.{◌≡◌, true, false, Some, None, Option, sym, refl, subst}
use Rattle.std.proofs.lemmas.Bool.{cond-false}
use Rattle.std.proofs.lemmas.Option.{none-some}
use Rattle.telegram.specs.Format.{OrderValue.text}
use Rattle.cab_unit.specs.Events.{Event.order}
use Rattle.cab_unit.specs.Line.{settled}
use Rattle.cab_unit.specs.Moves.{Change}
use Rattle.cab_unit.specs.Refusing.{failed, refusal}
use Rattle.cab_unit.specs.State.{State}
use Rattle.cab_unit.specs.Steps.{answer_at, state_at, changed}
use Rattle.driver_desk.specs.declared.refusal.Refusal.{Refusal}
use Rattle.driver_desk.specs.declared.refusal.Refusal.TheVariants.{InSystemFailure}
use Rattle.bench.specs.Asking.{ShownAsksNothing, WantedAsks, TextsAsk}

-- an answer without a refusal tells what the change raised
raised_told : (r : Option Refusal) (s : State) (h : Change) → (answer_at r s h).outcome ≡ None → (answer_at r s h).raised ≡ h.raising
raised_told None s h e = refl
raised_told (Some x) s h e = absurd (none-some x (sym e))

shown_asks_nothing : ShownAsksNothing
unfolding settled
shown_asks_nothing reads n t s works =
    let h : Change = changed reads (order (text n false t)) s in
    let none : refusal (order (text n false t)) s ≡ None = cond-false (failed s) (Some InSystemFailure) None works in
    subst
    (λ (r : Option Refusal). ((answer_at r s h).outcome ≡ None) × ((answer_at r s h).raised ≡ None) × ((answer_at r s h).withdrawn ≡ 0) × ((state_at r s h).waiting ≡ s.waiting))
    (sym none) (refl, refl, refl, refl)

wanted_asks : WantedAsks
wanted_asks reads n t s accepted = raised_told (refusal (order (text n true t)) s) s (changed reads (order (text n true t)) s) accepted

pub texts_ask : TextsAsk
texts_ask = (shown_asks_nothing, wanted_asks)
