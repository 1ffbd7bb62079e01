-- On Sight, Limited Supervision, Staff Responsible or Unfitted, standing over 50 cycles with the line released, was confirmed exactly once.
use Rattle.std.proofs.Common.{◌≡◌, ℕ, ◌+◌, Bool, true, false, cond, not, ◌&&◌, ◌||◌, eqb, ltb, List, [], ◌∷◌, length, Some, None, filter, Option, sym, refl, ap, ◌∙◌, inl, inr, arith}
use Rattle.std.specs.List.{AllByRecursion}
use Rattle.std.proofs.lemmas.Bool.{cases_Bool, cond_both, both_ways}
use Rattle.std.proofs.lemmas.Bool.Decides.{nat_tests}
use Rattle.std.proofs.lemmas.Option.{none-some}
use Rattle.telegram.specs.Format.{OrderValue, OrderValue.authority, OrderValue.level, OrderValue.text, OrderValue.withdrawal, OrderValue.stop, OrderValue.sign, OrderValue.permission}
use Rattle.telegram.specs.Modes.{mode_code}
use Rattle.telegram.specs.declared.modes.Mode.{Mode}
use Rattle.telegram.specs.declared.modes.Mode.TheVariants.{Standby, StaffResponsible, FullSupervision, Shunting, Unfitted, Trip, PostTrip, SystemFailure}
use Rattle.train_end.specs.declared.brake_line.BrakeLine.{BrakeLine}
use Rattle.train_end.specs.declared.brake_line.BrakeLine.TheVariants.{Released, Service, Emergency}
use Rattle.cab_unit.specs.Buttons.{supervised, startable, settable, button_numbered, enabled}
use Rattle.cab_unit.specs.declared.button.Button.{Button}
use Rattle.cab_unit.specs.declared.button.Button.TheVariants as button
use Rattle.cab_unit.specs.Cycles.{given, counted, lapsed, watched, cycle_change}
use Rattle.cab_unit.specs.Events.{Event, Event.cycle, Event.order, Event.press, Event.take}
use Rattle.cab_unit.specs.Facts.{Facts, LevelFits, fitting}
use Rattle.cab_unit.specs.Line.{line_rule, settled}
use Rattle.cab_unit.specs.Moves.{change, quiet, raising, request, entered, withdrawn_at, failing, on_desk, on_waiting, with_authority, with_pending, with_silence, with_level}
use Rattle.driver_desk.specs.Numbers.{is_mode, is_level, level_number, level_of}
use Rattle.cab_unit.specs.Orders.{authorized, authority_change, levelled, unauthorized, level_change, order_change}
use Rattle.cab_unit.specs.Presses.{entered_if, withdrawn_if, acknowledge_change, start_change, close_change, press_change, pressed}
use Rattle.cab_unit.specs.Refusing.{refusal, call_refusal, order_refusal, press_refusal}
use Rattle.driver_desk.specs.Requests.{of_class, not_of_class, is_for, waits, overdue, any_overdue}
use Rattle.cab_unit.specs.State.{State, moving}
use Rattle.cab_unit.specs.Steps.{changed, state_at, answer_at, next, reply, switched_on, with_train}
use Rattle.driver_desk.specs.declared.answer.Answer.{Answer}
use Rattle.cab_unit.specs.declared.desk.Desk.{Desk}
use Rattle.driver_desk.specs.declared.level.Level.{Level}
use Rattle.driver_desk.specs.declared.level.Level.TheVariants.{Zero, One, Two}
use Rattle.driver_desk.specs.declared.refusal.Refusal.{Refusal}
use Rattle.driver_desk.specs.declared.refusal.Refusal.TheVariants.{NoSuchButton, ButtonNotEnabled, NotHeard}
use Rattle.driver_desk.specs.declared.request.Class.TheVariants as class
use Rattle.driver_desk.specs.declared.request.Request.{Request}
use Rattle.driver_desk.specs.declared.train_record.TrainRecord.{TrainRecord}
use Rattle.bench.specs.Entries.{Entry, no_entry, entering, entered as entry_after, entry_of, confirmable}
use Rattle.bench.specs.Laws.{Confirmed, EntryLaw}
use Rattle.bench.specs.Runs.{after, answers, final_state, all_answers}
use Rattle.cab_unit.proofs.Facts.{facts_on, facts_step}
use Rattle.cab_unit.proofs.Heard.{accepted, needing-none}
use Rattle.bench.proofs.Passing.{kept_through, none_kept}
use Rattle.bench.proofs.Awaiting.{modes_in, Stands, answered, Keeps, leaves, stays_by, stays, enters-asked, enters-confirmed, stays-raising, entered-none, awaits_answer, awaits_none_late}

-- Standby and Post Trip want no confirmation
startable_unconfirmed : (m : Mode) → startable m ≡ true → confirmable m ≡ false
startable_unconfirmed m h = grind (arith, nat_tests)

-- what a cycle watches: a hold is of another class, and a trip leaves for Trip
keeps-watched : (block : List ℕ) (s u : State) → u.desk.mode ≡ s.desk.mode → u.cycle ≡ s.cycle + 1 → u.waiting ≡ s.waiting → Keeps (cycle block) s (watched u)
unfolding watched
keeps-watched block s u m c w =
    cond_both (moving u.speed && startable u.desk.mode && not (waits class.Hold 0 u.waiting)) _ _ (Keeps (cycle block) s)
    (λ _. stays-raising (cycle block) s u (request class.Hold 0 false u) 0 m c (ap modes_in w) refl)
    (λ _. cond_both (moving u.speed && supervised u.desk.mode && not u.desk.authority) _ _ (Keeps (cycle block) s)
    (λ _. leaves (cycle block) s (raising class.Trip 0 false (entered Trip u) (withdrawn_at Trip u)) refl)
    (λ _. stays (cycle block) s (quiet u) m c (ap modes_in w) refl))

-- a cycle, which adds one to the cycle number and to how long the mode has stood
keeps-cycle : (speed : Option ℕ) (block : List ℕ) (s : State) → Keeps (cycle block) s (cycle_change speed s)
unfolding cycle_change counted lapsed
keeps-cycle speed block s =
    cond_both (ltb s.cycle 4294967295) _ _ (Keeps (cycle block) s)
    (λ _. keeps-watched block s (lapsed (counted (given speed s))) refl refl refl)
    (λ _. leaves (cycle block) s (change (failing s) None None (length s.waiting)) refl)

-- an authority: the same mode stays, another is entered with its request unless it is Full Supervision
keeps-authority : (m : Mode) (s : State) → Keeps (order (authority m)) s (authority_change m (authorized s))
unfolding authority_change
keeps-authority m s =
    let e = order (authority m) in
    let u = authorized s in
    cond_both (is_mode s.desk.mode m) _ _ (Keeps e s)
    (λ _. stays e s (quiet u) refl (omega arith) refl refl)
    (λ f. cond_both (is_mode m FullSupervision) _ _ (Keeps e s)
    (λ g. leaves e s (change (entered m u) None None (withdrawn_at m u)) (grind (arith, nat_tests)))
    (λ _. enters-asked e s (entered m u) (mode_code m) (withdrawn_at m u) f (entered-none m u f) refl))

-- a level order: at another level, Unfitted is entered from another mode, and so is Staff Responsible
keeps-level : (l : ℕ) (s : State) → LevelFits s.desk → Keeps (order (level l)) s (order_change (level l) s)
unfolding level_change
keeps-level l s fits =
    let e = order (level l) in
    let l' = level_of l in
    let old = s.desk.level in
    let u = levelled l' s in
    let same : modes_in u.waiting ≡ modes_in s.waiting = kept_through (of_class class.Mode) (not_of_class class.Level) (λ r h. grind (arith, nat_tests)) s.waiting in
    cond_both (is_level l' old) _ _ (Keeps e s)
    (λ _. stays e s (quiet s) refl (omega arith) refl refl)
    (λ f. cond_both (is_level l' Zero) _ _ (Keeps e s)
    (λ g. let m : is_mode s.desk.mode Unfitted ≡ false = elim (cases_Bool (is_mode s.desk.mode Unfitted)) [ inl h ↦ let k = fits.1 h in grind (arith, nat_tests) | inr h ↦ h ] in
    enters-asked e s (unauthorized (entered Unfitted u)) 6 _ m (entered-none Unfitted u m) refl)
    (λ g. cond_both (is_level old Zero) _ _ (Keeps e s)
    (λ z. let m : is_mode s.desk.mode StaffResponsible ≡ false = let k = fits.0 z in grind (arith, nat_tests) in
    enters-asked e s (entered StaffResponsible u) 1 _ m (entered-none StaffResponsible u m) refl)
    (λ _. stays-raising e s u (request class.Level (level_number l') true u) _ refl (omega arith) same refl)))

-- an order that is not refused; a permission is heard only with a start pending, so in a mode that wants no confirmation
keeps-order : (o : OrderValue) (s : State) → Facts s → order_refusal o s ≡ None → Keeps (order o) s (order_change o s)
keeps-order (authority m) s facts h = keeps-authority m s
keeps-order (level l) s facts h = keeps-level l s facts.2
keeps-order (text n true t) s facts h = stays-raising (order (text n true t)) s s (request class.Text n true s) 0 refl (omega arith) refl refl
keeps-order (text n false t) s facts h = stays (order (text n false t)) s (quiet s) refl (omega arith) refl refl
keeps-order (withdrawal n) s facts h =
    let left = filter (λ r. not (is_for class.Text n r)) in
    stays (order (withdrawal n)) s (change (on_waiting left s) None None 1) refl (omega arith)
    (kept_through (of_class class.Mode) (λ r. not (is_for class.Text n r)) (λ r k. grind (arith, nat_tests)) s.waiting) refl
keeps-order stop s facts h = leaves (order stop) s (raising class.Trip 0 false (unauthorized (entered Trip s)) (withdrawn_at Trip s)) refl
keeps-order sign s facts h = stays (order sign) s (quiet (on_desk (with_silence 0) s)) refl (omega arith) refl refl
keeps-order permission s facts h =
    leaves (order permission) s (raising class.Mode 1 false (on_desk (with_pending false) s) 0)
    (startable_unconfirmed s.desk.mode (facts.1 (needing-none s.desk.pending NotHeard None h).0).0)

-- Acknowledge, in a state whose waiting list varies
module _ (n : ℕ) (first : eqb n 1 ≡ true) (d : Desk) (held : Option TrainRecord) (now : ℕ) (v : Option ℕ) (b : BrakeLine) where
  abbrev holding : List Request → State
  holding l = record { desk = d; train = held; cycle = now; waiting = l; speed = v; line = b }

  -- the first ends and the mode stays: a mode request is the one that the entry raised
  keeps-ending : (r : Request) (l : List Request) → Keeps (press n) (holding (r ∷ l)) (change (holding l) None (Some r) 0)
  keeps-ending r l =
      let h = change (holding l) None (Some r) 0 in
      elim (cases_Bool (of_class class.Mode r)) [
        | inl e ↦ stays_by (press n) (holding (r ∷ l)) h refl (λ t k. awaits_answer (press n) (answered h) t r now now (modes_in l) refl (simp e at k))
        | inr e ↦ stays (press n) (holding (r ∷ l)) h refl (omega arith) (simp e) (simp e)
      ]

  -- a mode that it enters is another one, since an untimed mode request waits only in Standby or Post Trip
  keeps-first : (l : List Request) → AllByRecursion (λ r. fitting d r ≡ true) l → Keeps (press n) (holding l) (acknowledge_change (holding l))
  unfolding acknowledge_change
  keeps-first [] fit = stays (press n) (holding []) (quiet (holding [])) refl (omega arith) refl refl
  keeps-first (r ∷ l) fit =
      let s = holding (r ∷ l) in
      let u = holding l in
      let P : Option Mode → Type 0 = λ o. Keeps (press n) s (change (entered_if o u) None (Some r) (withdrawn_if o u)) in
      cond_both (of_class class.Trip r) _ _ P
      (λ _. leaves (press n) s (change (entered PostTrip u) None (Some r) (withdrawn_at PostTrip u)) refl)
      (λ _. cond_both (of_class class.Mode r && not r.timed) _ _ P
      (λ f.
      let m = cond (eqb r.number 6) Unfitted StaffResponsible in
      let start : startable d.mode ≡ true = let k = fit.0 in grind (arith, nat_tests) in
      let other : is_mode d.mode m ≡ false = cond_both (eqb r.number 6) Unfitted StaffResponsible (λ (x : Mode). is_mode d.mode x ≡ false) (λ _. grind (arith, nat_tests)) (λ _. grind (arith, nat_tests)) in
      enters-confirmed (press n) s (entered m u) (Some r) (withdrawn_at m u) other (entered-none m u other) (grind (arith, nat_tests)))
      (λ _. keeps-ending r l))

-- Start is enabled only in a mode that wants no confirmation
start_unconfirmed : (s : State) → enabled button.Start s ≡ true → confirmable s.desk.mode ≡ false
unfolding enabled
start_unconfirmed s h = let k : startable s.desk.mode ≡ true = grind (arith, nat_tests) in startable_unconfirmed s.desk.mode k

-- Override is not enabled in Staff Responsible
override_enters : (s : State) → enabled button.Override s ≡ true → is_mode s.desk.mode StaffResponsible ≡ false
unfolding enabled
override_enters s h = grind (arith, nat_tests)

-- a Level button is enabled only in a mode that wants no confirmation
level_unconfirmed : (l : Level) (s : State) → enabled (button.Level l) s ≡ true → confirmable s.desk.mode ≡ false
unfolding enabled
level_unconfirmed l s h = let k : settable s ≡ true = h in grind (arith, nat_tests)

-- Start leaves the mode
keeps_start : (e : Event) (s : State) → confirmable s.desk.mode ≡ false → Keeps e s (start_change s)
unfolding start_change
keeps_start e s f =
    cond_both (is_level s.desk.level Two) _ _ (Keeps e s)
    (λ _. leaves e s (quiet (on_desk (with_pending true) s)) f)
    (λ _. cond_both (is_level s.desk.level One) _ _ (Keeps e s)
    (λ _. leaves e s (raising class.Mode 1 false s 0) f)
    (λ _. leaves e s (raising class.Mode 6 false s 0) f))

-- a press that is not refused
keeps-press : (n : ℕ) (s : State) → Facts s → press_refusal (button_numbered n) s ≡ None → Keeps (press n) s (pressed (button_numbered n) s)
unfolding press_change close_change
keeps-press n s facts =
    let e = press n in
    let P : Option Button → Type 0 = λ o. press_refusal o s ≡ None → Keeps e s (pressed o s) in
    let on : (b : Button) → press_refusal (Some b) s ≡ None → enabled b s ≡ true = λ b h. (needing-none (enabled b s) ButtonNotEnabled None h).0 in
    let set : (l : Level) → P (Some (button.Level l)) = λ l h. leaves e s (quiet (on_desk (with_level l) s)) (level_unconfirmed l s (on (button.Level l) h)) in
    cond_both (eqb n 1) _ _ P
    (λ f1 h. keeps-first n f1 s.desk s.train s.cycle s.speed s.line s.waiting facts.3)
    (λ _. cond_both (eqb n 2) _ _ P
    (λ _ h. keeps_start e s (start_unconfirmed s (on button.Start h)))
    (λ _. cond_both (eqb n 3) _ _ P
    (λ _ h. leaves e s (change (entered Shunting s) None None (withdrawn_at Shunting s)) refl)
    (λ _. cond_both (eqb n 4) _ _ P
    (λ _ h. leaves e s (change (entered Standby s) None None (withdrawn_at Standby s)) refl)
    (λ _. cond_both (eqb n 5) _ _ P
    (λ f5 h.
    let m = override_enters s (on button.Override h) in
    enters-confirmed e s (on_desk (with_authority false) (entered StaffResponsible s)) None _ m (entered-none StaffResponsible s m) (grind (arith, nat_tests)))
    (λ _. cond_both (eqb n 6) _ _ P (λ _. set Zero)
    (λ _. cond_both (eqb n 7) _ _ P (λ _. set One)
    (λ _. cond_both (eqb n 8) _ _ P (λ _. set Two)
    (λ _. cond_both (eqb n 9) _ _ P (λ _ h. leaves e s _ refl)
    (λ _ h. absurd (none-some NoSuchButton (sym h)))))))))))

-- every call that is not refused
keeps : (reads : List ℕ → Option ℕ) (e : Event) (s : State) → Facts s → call_refusal e s ≡ None → Keeps e s (changed reads e s)
keeps reads (cycle block) s facts h = keeps-cycle (reads block) block s
keeps reads (order o) s facts h = keeps-order o s facts h
keeps reads (press n) s facts h = keeps-press n s facts h
keeps reads (take t) s facts h = stays (take t) s (quiet (with_train t s)) refl (omega arith) refl refl

-- the line is as the line rule has it
abbrev pub Ruled : State → Type 0
Ruled s = s.line ≡ line_rule s

-- what holds of an entry and a state all along a run
abbrev pub Holds : Entry → State → Type 0
Holds t s = (t.mode ≡ s.desk.mode) × Stands t s × Ruled s

-- the mode of an entry is the last answer's
entering-mode : (b : Bool) (e : Event) (a : Answer) (t : Entry) → (entering b e a t).mode ≡ a.mode
entering-mode true e a t = refl
entering-mode false e a t = refl

-- one call, refused or not
holds_at : (reads : List ℕ → Option ℕ) (e : Event) (s : State) (t : Entry) (o : Option Refusal) → refusal e s ≡ o → Facts s → Holds t s →
    Holds (entry_after e (answer_at o s (changed reads e s)) t) (state_at o s (changed reads e s))
unfolding Keeps settled
holds_at reads e s t None h facts k =
    let c = changed reads e s in
    (entering-mode (is_mode t.mode (answered c).mode) e (answered c) t, keeps reads e s facts (accepted e s h).1 t k.0 k.1, refl)
holds_at reads e s t (Some r) h facts k = k

-- while the line is released nothing is overdue
none_late : (s : State) → line_rule s ≡ Released → any_overdue s.cycle s.waiting ≡ false
none_late s h = elim (cases_Bool (any_overdue s.cycle s.waiting)) [
  | inl late ↦ elim (cases_Bool (is_mode s.desk.mode Trip || is_mode s.desk.mode SystemFailure)) [
    | inl e ↦ let z : Emergency ≡ Released = simp e at h in cc
    | inr e ↦ let z : Service ≡ Released = simp (e, late) at h in cc
  ]
  | inr e ↦ e
]

-- what holds along a run gives the law at its end
holds_confirmed : (t : Entry) (s : State) → Holds t s → Confirmed t s
holds_confirmed t s k o long line =
    let late = none_late s (sym k.2 ∙ line) in
    awaits_none_late t s.cycle (modes_in s.waiting) (k.1 (ap confirmable (sym k.0) ∙ o)) long
    (none_kept (of_class class.Mode) (overdue s.cycle) s.waiting late)

-- it holds of a unit just switched on
holds_on : (speed : Option ℕ) → Holds no_entry (switched_on speed)
unfolding settled
holds_on speed = (refl, λ o. absurd (both_ways false refl o), refl)

-- a run, call by call
holds_run : (reads : List ℕ → Option ℕ) (es : List Event) (s : State) (t : Entry) → Facts s → Holds t s → Holds (entry_of es (answers reads es s) t) (after reads es s)
holds_run reads [] s t facts k = k
holds_run reads (e ∷ es) s t facts k =
    holds_run reads es (next reads e s) (entry_after e (reply reads e s) t) (facts_step reads e s facts) (holds_at reads e s t (refusal e s) refl facts k)

-- the law, of every list of calls on every end
pub entry_law : EntryLaw
entry_law reads speed es =
    holds_confirmed (entry_of es (all_answers reads speed es) no_entry) (final_state reads speed es)
    (holds_run reads es (switched_on speed) no_entry (facts_on speed) (holds_on speed))
