-- Three readings of the rules that are ruled out.
use Rattle.std.proofs.Common.{◌≡◌, ℕ, true, false, not, ◌&&◌, ltb, List, [], ◌∷◌, Some, None, Option, sym, refl, ap, ◌∙◌, subst, inl, inr, arith}
use Rattle.std.specs.List.{AllByRecursion}
use Rattle.std.proofs.lemmas.Bool.{cases_Bool, cond_both, cond-true, both_ways}
use Rattle.std.proofs.lemmas.Bool.Decides.{nat_tests}
use Rattle.telegram.specs.Format.{OrderValue.authority}
use Rattle.telegram.specs.declared.modes.Mode.{Mode}
use Rattle.telegram.specs.declared.modes.Mode.TheVariants.{OnSight, SystemFailure}
use Rattle.cab_unit.specs.Buttons.{supervised, startable}
use Rattle.cab_unit.specs.declared.button.Button.TheVariants as button
use Rattle.cab_unit.specs.Cycles.{given, counted, lapsed, watched, cycle_change}
use Rattle.cab_unit.specs.Events.{Event.cycle, Event.order, Event.press}
use Rattle.cab_unit.specs.Facts.{Rising, Facts}
use Rattle.cab_unit.specs.Line.{settled}
use Rattle.cab_unit.specs.Moves.{Change, quiet}
use Rattle.driver_desk.specs.Numbers.{is_mode}
use Rattle.cab_unit.specs.Orders.{authorized, authority_change}
use Rattle.cab_unit.specs.Presses.{acknowledge_change, press_change}
use Rattle.cab_unit.specs.Refusing.{refusal}
use Rattle.driver_desk.specs.Requests.{before, waits, first_of}
use Rattle.cab_unit.specs.State.{State, standing, moving}
use Rattle.cab_unit.specs.Steps.{state_at, answer_at, next, reply}
use Rattle.driver_desk.specs.declared.refusal.Refusal.{Refusal}
use Rattle.driver_desk.specs.declared.request.Class.TheVariants as class
use Rattle.driver_desk.specs.declared.request.Request.{Request}
use Rattle.cab_unit.proofs.Before.{before-order}
use Rattle.std.proofs.lemmas.Option.{none-some}
use Rattle.cab_unit.proofs.Sorted.{first_least}

-- an authority for the mode that the unit is in changes no request
again : (m : Mode) (s : State) → is_mode s.desk.mode m ≡ true → authority_change m (authorized s) ≡ quiet (authorized s)
unfolding authority_change
again m s e = cond-true (is_mode s.desk.mode m) _ _ e

-- so neither state nor answer tells of one
again-at : (o : Option Refusal) (s : State) →
    ((state_at o s (quiet (authorized s))).waiting ≡ s.waiting) × ((answer_at o s (quiet (authorized s))).raised ≡ None) × ((answer_at o s (quiet (authorized s))).withdrawn ≡ 0)
unfolding settled
again-at None s = (refl, refl, refl)
again-at (Some r) s = (refl, refl, refl)

-- a repeated authority raises and withdraws nothing
pub repeated_authority : (reads : List ℕ → Option ℕ) (m : Mode) (s : State) → is_mode s.desk.mode m ≡ true →
    ((next reads (order (authority m)) s).waiting ≡ s.waiting) × ((reply reads (order (authority m)) s).raised ≡ None) × ((reply reads (order (authority m)) s).withdrawn ≡ 0)
repeated_authority reads m s e =
    let o = refusal (order (authority m)) s in
    let P : Change → Type 0 = λ h. ((state_at o s h).waiting ≡ s.waiting) × ((answer_at o s h).raised ≡ None) × ((answer_at o s h).withdrawn ≡ 0) in
    subst P (sym (again m s e)) (again-at o s)

-- On Sight among them
pub repeated_on_sight : (reads : List ℕ → Option ℕ) (s : State) → s.desk.mode ≡ OnSight → refusal (order (authority OnSight)) s ≡ None →
    ((next reads (order (authority OnSight)) s).waiting ≡ s.waiting) × ((reply reads (order (authority OnSight)) s).raised ≡ None) × ((reply reads (order (authority OnSight)) s).withdrawn ≡ 0)
repeated_on_sight reads s e h = repeated_authority reads OnSight s (ap (λ m. is_mode m OnSight) e)

-- a moving train does not stand
moving-not-standing : (v : Option ℕ) → moving v ≡ true → standing v ≡ false
moving-not-standing None h = refl
moving-not-standing (Some v) h = grind (arith, nat_tests)

-- the watch leaves the authority
watched-authority : (s : State) → (watched s).state.desk.authority ≡ s.desk.authority
unfolding watched
watched-authority s =
    elim (cases_Bool (moving s.speed && startable s.desk.mode && not (waits class.Hold 0 s.waiting))) [
      | inl e ↦ simp e
      | inr e ↦ elim (cases_Bool (moving s.speed && supervised s.desk.mode && not s.desk.authority)) [ inl k ↦ simp (e, k) | inr k ↦ simp (e, k) ]
    ]

-- it does not lapse unless the train stands
lapsed-authority : (s : State) → standing s.speed ≡ false → (lapsed s).desk.authority ≡ s.desk.authority
unfolding lapsed
lapsed-authority s e = grind (arith, nat_tests)

-- counting leaves it
counted-authority : (s : State) → ((counted s).desk.authority ≡ s.desk.authority) × ((counted s).speed ≡ s.speed)
unfolding counted
counted-authority s = (refl, refl)

-- so a cycle with the train moving keeps it, unless the unit fails
cycle-authority : (v : Option ℕ) (s : State) → moving v ≡ true → s.desk.authority ≡ true →
    is_mode (cycle_change v s).state.desk.mode SystemFailure ≡ false → (cycle_change v s).state.desk.authority ≡ true
unfolding cycle_change
cycle-authority v s h a =
    let u = counted (given v s) in
    let same = counted-authority (given v s) in
    let still = ap standing same.1 ∙ moving-not-standing v h in
    let P : Change → Type 0 = λ k. is_mode k.state.desk.mode SystemFailure ≡ false → k.state.desk.authority ≡ true in
    cond_both (ltb s.cycle 4294967295) _ _ P
    (λ _ _. watched-authority (lapsed u) ∙ lapsed-authority u still ∙ same.0 ∙ a)
    (λ _ k. absurd (both_ways true k refl))

-- refused or not
cycle-at : (o : Option Refusal) (s : State) (h : Change) → s.desk.authority ≡ true →
    (is_mode h.state.desk.mode SystemFailure ≡ false → h.state.desk.authority ≡ true) →
    is_mode (state_at o s h).desk.mode SystemFailure ≡ false → (state_at o s h).desk.authority ≡ true
unfolding settled
cycle-at None s h a k = k
cycle-at (Some r) s h a k = λ _. a

-- while the train moves, silence at its limit does not end the authority
pub moving-keeps-authority : (reads : List ℕ → Option ℕ) (block : List ℕ) (s : State) → moving (reads block) ≡ true → s.desk.authority ≡ true →
    is_mode (next reads (cycle block) s).desk.mode SystemFailure ≡ false → (next reads (cycle block) s).desk.authority ≡ true
moving-keeps-authority reads block s h a =
    cycle-at (refusal (cycle block) s) s (cycle_change (reads block) s) a (cycle-authority (reads block) s h a)

-- the first is before all others
first-before : (l : List Request) (r : Request) → Rising before l → first_of l ≡ Some r → AllByRecursion (λ x. before x r ≡ false) l
first-before [] r h e = absurd (none-some r e)
first-before (x ∷ xs) r h e =
    let same : x ≡ r = cc in
    subst (λ y. AllByRecursion (λ z. before z y ≡ false) (x ∷ xs)) same (first_least before-order x xs h)

-- what Acknowledge says it ended is the first
press-ends : (o : Option Refusal) (s : State) (r : Request) → (answer_at o s (press_change button.Acknowledge s)).acknowledged ≡ Some r → first_of s.waiting ≡ Some r
unfolding press_change acknowledge_change
press-ends None s r e = e
press-ends (Some _) s r e = absurd (none-some r e)

-- Acknowledge ends none behind the first
pub acknowledges-first : (reads : List ℕ → Option ℕ) (s : State) (r : Request) → Facts s → (reply reads (press 1) s).acknowledged ≡ Some r →
    (first_of s.waiting ≡ Some r) × AllByRecursion (λ x. before x r ≡ false) s.waiting
acknowledges-first reads s r f e =
    let first = press-ends (refusal (press 1) s) s r e in
    (first, first-before s.waiting r f.5 first)
