-- The speed after each call, and what calls do on two ends.
use Rattle.std.proofs.Common.{◌≡◌, ℕ, Bool, true, false, cond, not, ◌&&◌, ltb, List, length, Some, None, Option, sym, refl, ap, ◌∙◌}
use Rattle.std.proofs.lemmas.Bool.{cond_both, true≢false}
use Rattle.telegram.specs.Format.{OrderValue, OrderValue.authority, OrderValue.level, OrderValue.text, OrderValue.withdrawal, OrderValue.stop, OrderValue.sign, OrderValue.permission}
use Rattle.telegram.specs.declared.modes.Mode.{Mode}
use Rattle.telegram.specs.declared.modes.Mode.TheVariants.{FullSupervision, Trip, SystemFailure}
use Rattle.cab_unit.specs.Buttons.{supervised, startable}
use Rattle.cab_unit.specs.Cycles.{given, counted, lapsed, watched, cycle_change}
use Rattle.cab_unit.specs.Events.{Event, Event.cycle, Event.order, Event.press, Event.take}
use Rattle.cab_unit.specs.Line.{settled}
use Rattle.cab_unit.specs.Moves.{on_waiting, failing, Change, change, quiet}
use Rattle.driver_desk.specs.Numbers.{is_mode, is_level, level_of}
use Rattle.cab_unit.specs.Orders.{authority_change, level_change, order_change}
use Rattle.cab_unit.specs.Presses.{entered_by, entered_if, acknowledge_change, start_change, close_change, press_change, pressed}
use Rattle.cab_unit.specs.Buttons.{button_numbered}
use Rattle.cab_unit.specs.declared.button.Button.{Button}
use Rattle.cab_unit.specs.declared.button.Button.TheVariants as button
use Rattle.cab_unit.specs.Refusing.{refusal, failed}
use Rattle.driver_desk.specs.Requests.{waits, first_of, rest_of}
use Rattle.cab_unit.specs.State.{State, moving}
use Rattle.cab_unit.specs.Steps.{with_train, state_at, answer_at, next, reply}
use Rattle.driver_desk.specs.declared.level.Level.TheVariants.{Zero, One, Two}
use Rattle.driver_desk.specs.declared.request.Class.TheVariants as class
use Rattle.driver_desk.specs.declared.refusal.Refusal.{Refusal}
use Rattle.driver_desk.specs.declared.refusal.Refusal.TheVariants.{InSystemFailure}
use Rattle.driver_desk.specs.Answers.{is_accepted}
use Rattle.cab_unit.specs.Events.{is_cycle}
use Rattle.bench.specs.Likeness.{speed_after}
use Rattle.cab_unit.proofs.Heard.{cond-none}

-- of two changes that leave the speed v, either does
either : {v : Option ℕ} (t : Bool) (g h : Change) → g.state.speed ≡ v → h.state.speed ≡ v → (cond t g h).state.speed ≡ v
either true g h p q = p
either false g h p q = q

-- no order changes the speed
order-speed : (o : OrderValue) (s : State) → (order_change o s).state.speed ≡ s.speed
unfolding authority_change level_change
order-speed (authority m) s = either (is_mode s.desk.mode m) _ _ refl (either (is_mode m FullSupervision) _ _ refl refl)
order-speed (level l) s = either (is_level (level_of l) s.desk.level) _ _ refl (either (is_level (level_of l) Zero) _ _ refl (either (is_level s.desk.level Zero) _ _ refl refl))
order-speed (text n true t) s = refl
order-speed (text n false t) s = refl
order-speed (withdrawal n) s = refl
order-speed stop s = refl
order-speed sign s = refl
order-speed permission s = refl

-- nor does a mode entered by an acknowledgement
entered-speed : (m : Option Mode) (s : State) → (entered_if m s).speed ≡ s.speed
entered-speed None s = refl
entered-speed (Some m) s = refl

-- nor does a press
press-speed : (o : Option Button) (s : State) → (pressed o s).state.speed ≡ s.speed
unfolding acknowledge_change start_change close_change press_change
press-speed None s = refl
press-speed (Some button.Acknowledge) s = entered-speed (entered_by (first_of s.waiting)) (on_waiting rest_of s)
press-speed (Some button.Start) s = either (is_level s.desk.level Two) _ _ refl (either (is_level s.desk.level One) _ _ refl refl)
press-speed (Some button.Shunting) s = refl
press-speed (Some button.ExitShunting) s = refl
press-speed (Some button.Override) s = refl
press-speed (Some (button.Level l)) s = refl
press-speed (Some button.CloseDesk) s = refl

-- watching leaves the speed, and leaves the mode or enters Trip
watched-leaves : (s : State) (P : Mode → Option ℕ → Type 0) → P s.desk.mode s.speed → P Trip s.speed → P (watched s).state.desk.mode (watched s).state.speed
unfolding watched
watched-leaves s P p q =
    let Q : Change → Type 0 = λ h. P h.state.desk.mode h.state.speed in
    cond_both (moving s.speed && startable s.desk.mode && not (waits class.Hold 0 s.waiting)) _ _ Q (λ e. p)
    (λ e. cond_both (moving s.speed && supervised s.desk.mode && not s.desk.authority) _ _ Q (λ f. q) (λ f. p))

-- the speed is v, but w in System Failure
abbrev SpeedIs : Option ℕ → Option ℕ → Mode → Option ℕ → Type 0
SpeedIs v w m u = cond (not (is_mode m SystemFailure)) v w ≡ u

-- an accepted cycle has the block's speed, but at the last number, where it enters System Failure
cycle-speed : (v : Option ℕ) (s : State) → failed s ≡ false → SpeedIs v s.speed (cycle_change v s).state.desk.mode (cycle_change v s).state.speed
unfolding cycle_change lapsed counted
cycle-speed v s f =
    cond_both (ltb s.cycle 4294967295) _ _ (λ (h : Change). SpeedIs v s.speed h.state.desk.mode h.state.speed)
    (λ e. watched-leaves (lapsed (counted (given v s))) (SpeedIs v s.speed) (simp f) refl) (λ e. refl)

-- a refused call leaves the speed, and so does one whose change leaves it
kept_speed : (o : Option Refusal) (s : State) (h : Change) → h.state.speed ≡ s.speed → (state_at o s h).speed ≡ s.speed
unfolding settled
kept_speed None s h p = p
kept_speed (Some r) s h p = refl

-- the speed told of a cycle is the speed after it, refused or not
cycle-told : (v : Option ℕ) (s : State) (o : Option Refusal) → cond (failed s) (Some InSystemFailure) None ≡ o →
    cond (is_accepted (answer_at o s (cycle_change v s)) && not (is_mode (answer_at o s (cycle_change v s)).mode SystemFailure)) v s.speed ≡ (state_at o s (cycle_change v s)).speed
unfolding settled
cycle-told v s None f = cycle-speed v s (cond-none (failed s) InSystemFailure None f).0
cycle-told v s (Some r) f = refl

-- and so of every call
pub told-speed : (reads : List ℕ → Option ℕ) (e : Event) (s : State) → speed_after reads e (reply reads e s) s.speed ≡ (next reads e s).speed
told-speed reads (cycle block) s = cycle-told (reads block) s (refusal (cycle block) s) refl
told-speed reads (order o) s = sym (kept_speed (refusal (order o) s) s (order_change o s) (order-speed o s))
told-speed reads (press n) s = sym (kept_speed (refusal (press n) s) s (pressed (button_numbered n) s) (press-speed (button_numbered n) s))
told-speed reads (take t) s = sym (kept_speed (refusal (take t) s) s (quiet (with_train t s)) refl)

-- a change that has the speed v where a test passes, and is the same for all v where it fails, is told by its speed
by_speed : (t : Bool) (f : Option ℕ → Change) (g : Change) → ((v : Option ℕ) → (f v).state.speed ≡ v) → (v w : Option ℕ) →
    (cond t (f v) g).state.speed ≡ (cond t (f w) g).state.speed → cond t (f v) g ≡ cond t (f w) g
by_speed true f g k v w h = ap f (sym (k v) ∙ h ∙ k w)
by_speed false f g k v w h = refl

-- so is a cycle's
cycle_by_speed : (v w : Option ℕ) (s : State) → (cycle_change v s).state.speed ≡ (cycle_change w s).state.speed → cycle_change v s ≡ cycle_change w s
unfolding cycle_change lapsed counted
cycle_by_speed v w s h =
    by_speed (ltb s.cycle 4294967295) (λ u. watched (lapsed (counted (given u s)))) (change (failing s) None None (length s.waiting))
    (λ u. watched-leaves (lapsed (counted (given u s))) (λ m x. x ≡ u) refl refl) v w h

-- two calls do the same in a state
abbrev pub SameStep : (List ℕ → Option ℕ) → (List ℕ → Option ℕ) → Event → Event → State → Type 0
SameStep r₁ r₂ e f s = (next r₁ e s ≡ next r₂ f s) × (reply r₁ e s ≡ reply r₂ f s)

-- in one state, with one refusal or none, cycles that leave the same speed do the same
cycle-at : (o : Option Refusal) (v w : Option ℕ) (s : State) → (state_at o s (cycle_change v s)).speed ≡ (state_at o s (cycle_change w s)).speed →
    (state_at o s (cycle_change v s) ≡ state_at o s (cycle_change w s)) × (answer_at o s (cycle_change v s) ≡ answer_at o s (cycle_change w s))
unfolding settled
cycle-at None v w s h = let e = cycle_by_speed v w s h in (ap (state_at None s) e, ap (answer_at None s) e)
cycle-at (Some r) v w s h = (refl, refl)

-- two calls that are cycles and leave the same speed do the same
pub cycles_by_speed : (r₁ r₂ : List ℕ → Option ℕ) (e f : Event) (s : State) → is_cycle e ≡ true → is_cycle f ≡ true → (next r₁ e s).speed ≡ (next r₂ f s).speed → SameStep r₁ r₂ e f s
cycles_by_speed r₁ r₂ (cycle a) (cycle b) s p q h = cycle-at (refusal (cycle a) s) (r₁ a) (r₂ b) s h
cycles_by_speed r₁ r₂ (cycle a) (order o) s p q h = absurd (true≢false (sym q))
cycles_by_speed r₁ r₂ (cycle a) (press n) s p q h = absurd (true≢false (sym q))
cycles_by_speed r₁ r₂ (cycle a) (take t) s p q h = absurd (true≢false (sym q))
cycles_by_speed r₁ r₂ (order o) f s p q h = absurd (true≢false (sym p))
cycles_by_speed r₁ r₂ (press n) f s p q h = absurd (true≢false (sym p))
cycles_by_speed r₁ r₂ (take t) f s p q h = absurd (true≢false (sym p))

-- a call that is no cycle does the same on every end
pub unread : (r₁ r₂ : List ℕ → Option ℕ) (e : Event) (s : State) → is_cycle e ≡ false → SameStep r₁ r₂ e e s
unread r₁ r₂ (cycle a) s h = absurd (true≢false h)
unread r₁ r₂ (order o) s h = (refl, refl)
unread r₁ r₂ (press n) s h = (refl, refl)
unread r₁ r₂ (take t) s h = (refl, refl)
