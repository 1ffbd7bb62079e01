-- The facts hold of every state that calls can reach.
use Rattle.std.proofs.Common.{◌≡◌, ℕ, ◌+◌, ◌<◌, ◌≤◌, Bool, true, false, cond, not, ◌&&◌, ◌||◌, eqb, ltb, leb, List, [], ◌∷◌, Some, None, filter, Option, sym, refl, ◌∙◌, subst, inl, inr, arith}
use Rattle.std.specs.List.{AllByRecursion}
use Rattle.std.proofs.ByRecursion.{all_kept_by, All-weaker}
use Rattle.std.proofs.lemmas.Bool.{cases_Bool, cond_both, cond-false, both_ways, and_parts, leb-false}
use Rattle.std.proofs.lemmas.Bool.Decides.{nat_tests}
use Rattle.std.proofs.lemmas.Option.{none-some as none_is_not_some}
use Rattle.telegram.specs.Format.{OrderValue, OrderValue.authority, OrderValue.level, OrderValue.text, OrderValue.withdrawal, OrderValue.stop, OrderValue.sign, OrderValue.permission}
use Rattle.telegram.specs.Modes.{mode_code}
use Rattle.telegram.specs.declared.modes.Mode.{Mode}
use Rattle.telegram.specs.declared.modes.Mode.TheVariants.{Standby, StaffResponsible, FullSupervision, Shunting, Unfitted, Trip, PostTrip}
use Rattle.cab_unit.specs.Buttons.{supervised, startable, settable, button_numbered, enabled}
use Rattle.cab_unit.specs.declared.button.Button.{Button}
use Rattle.cab_unit.specs.declared.button.Button.TheVariants as button
use Rattle.cab_unit.specs.Cycles.{given, counted, lapsed, watched, cycle_change}
use Rattle.cab_unit.specs.Events.{Event, Event.cycle, Event.order, Event.press, Event.take}
use Rattle.cab_unit.specs.Facts.{TripsInTrip, StartsPend, zero_mode, LevelFits, fitting, Facts}
use Rattle.cab_unit.specs.Heard.{hears_authority, hears_level, hears_stop, is_listed}
use Rattle.cab_unit.specs.Line.{settled}
use Rattle.cab_unit.specs.Moves.{with_mode, with_level, with_authority, with_pending, on_desk, on_waiting, entered, failing, request, raised, Change}
use Rattle.driver_desk.specs.Numbers.{class_number, level_number, level_of, is_mode, is_level}
use Rattle.cab_unit.specs.Orders.{authorized, authority_change, levelled, level_change, text_change, order_change}
use Rattle.cab_unit.specs.Places.{limit}
use Rattle.cab_unit.specs.Presses.{entered_if, acknowledge_change, start_change, without_train, close_change, press_change, pressed}
use Rattle.cab_unit.specs.Refusing.{text_refusal, press_refusal, order_refusal, call_refusal, refusal}
use Rattle.driver_desk.specs.Requests.{before, of_class, not_of_class, is_for, waits, number_of}
use Rattle.cab_unit.specs.State.{State, moving}
use Rattle.cab_unit.specs.Steps.{changed, state_at, next, switched_on}
use Rattle.cab_unit.specs.declared.desk.Desk.{Desk}
use Rattle.driver_desk.specs.declared.level.Level.{Level}
use Rattle.driver_desk.specs.declared.level.Level.TheVariants.{Zero, One, Two}
use Rattle.driver_desk.specs.declared.refusal.Refusal.{Refusal}
use Rattle.driver_desk.specs.declared.refusal.Refusal.TheVariants.{NoSuchButton, ButtonNotEnabled, OutsideList, NotHeard, TextWaits, TwelveTextsWait}
use Rattle.driver_desk.specs.declared.request.Class.{Class}
use Rattle.driver_desk.specs.declared.request.Class.TheVariants as class
use Rattle.driver_desk.specs.declared.request.Request.{Request}
use Rattle.cab_unit.proofs.Heard.{cond-none, needing-none, accepted, authority_is, level_is, stop_is, listed_is}
use Rattle.cab_unit.proofs.Sorted.{all_both, all_put, none-tally, tally-none, none-some, tally_kept}
use Rattle.cab_unit.proofs.Queue.{some_room, none_for, number_withdrawn, number_other, number_put, Queue, queue_put, queue_kept, queue_rest}

-- a test does not both fail and pass
against : {A : Type 0} {b : Bool} → b ≡ false → b ≡ true → A
against {b} e h = absurd (both_ways b e h)

-- a hold has number 0
abbrev pub hold_fits : Request → Bool
hold_fits r = not (of_class class.Hold r) || eqb r.number 0

-- what fits a desk holds no hold of another number
pub holds_fit : (d : Desk) (l : List Request) → AllByRecursion (λ r. fitting d r ≡ true) l → AllByRecursion (λ r. hold_fits r ≡ true) l
holds_fit d l h = All-weaker (λ r. fitting d r ≡ true) (λ r. hold_fits r ≡ true) (λ r k. (and_parts _ _ k).1) l h

-- with no mode request, every desk fits
pub unasked_fit : (d : Desk) (l : List Request) → number_of class.Mode l ≡ 0 → AllByRecursion (λ r. hold_fits r ≡ true) l → AllByRecursion (λ r. fitting d r ≡ true) l
unasked_fit d l n h =
    all_both (λ r. of_class class.Mode r ≡ false) (λ r. hold_fits r ≡ true) (λ r. fitting d r ≡ true) (λ r e k. simp (e, k)) l (none-tally (of_class class.Mode) l n) h

-- the facts of the list alone
pub queue_of : (s : State) → Facts s → Queue s.waiting
queue_of s f = (f.4, f.5, f.6)

-- only silence and line are settled
pub facts_settled : (s : State) → Facts s → Facts (settled s)
unfolding settled
facts_settled s f = f

-- in a mode that no start is pending in
pub no_start : (s : State) → StartsPend s → startable s.desk.mode ≡ false → s.desk.pending ≡ false
no_start s h e = elim (cases_Bool s.desk.pending) [
  | inl p ↦ against e (h p).0
  | inr p ↦ p
]

-- in a mode that does not stand at level 0
pub above_zero : (d : Desk) → LevelFits d → zero_mode d.mode ≡ false → is_level d.level Zero ≡ false
above_zero d h e = elim (cases_Bool (is_level d.level Zero)) [
  | inl p ↦ against e (h.0 p)
  | inr p ↦ p
]

-- at a level above 0
pub fits_above : (d : Desk) → is_level d.level Zero ≡ false → is_mode d.mode Unfitted ≡ false → LevelFits d
fits_above d e h = (against e, against h)

-- a mode that stands at every level
pub fits_anywhere : (d : Desk) → zero_mode d.mode ≡ true → is_mode d.mode Unfitted ≡ false → LevelFits d
fits_anywhere d e h = ((λ _. e), against h)

-- with no mode request waiting
pub facts_unasked : (s : State) → TripsInTrip s →
    (s.desk.pending ≡ true → (startable s.desk.mode ≡ true) × (is_level s.desk.level Two ≡ true)) →
    LevelFits s.desk → number_of class.Mode s.waiting ≡ 0 → AllByRecursion (λ r. hold_fits r ≡ true) s.waiting → Queue s.waiting → Facts s
facts_unasked s t p v n h q = (t, (λ e. ((p e).0, (p e).1, n)), v, unasked_fit s.desk s.waiting n h, q.0, q.1, q.2)

-- another mode is entered
pub facts_entered : (m : Mode) (s : State) → is_mode s.desk.mode m ≡ false →
    (is_mode m Trip ≡ false → number_of class.Trip s.waiting ≡ 0) → s.desk.pending ≡ false → LevelFits (with_mode m s.desk) →
    AllByRecursion (λ r. hold_fits r ≡ true) s.waiting → Queue s.waiting → Facts (entered m s) × (number_of class.Mode (entered m s).waiting ≡ 0)
facts_entered m s e t p v h q =
    let l = s.waiting in
    let k = filter (not_of_class class.Mode) l in
    let at' : List Request → State = λ w. record { desk = with_mode m s.desk; train = s.train; cycle = s.cycle; waiting = w; speed = s.speed; line = s.line } in
    let P : List Request → Type 0 = λ w. Facts (at' w) × (number_of class.Mode w ≡ 0) in
    let n = number_withdrawn class.Mode l in
    let o = number_other class.Trip class.Mode refl l in
    subst P (sym (cond-false (is_mode s.desk.mode m) l k e))
    (facts_unasked (at' k) (λ j. o ∙ t j) (against p) v n (all_kept_by (not_of_class class.Mode) (λ r. hold_fits r ≡ true) l h) (queue_kept (not_of_class class.Mode) l q), n)

-- another mode is entered from one that is not Trip, where no start is pending
pub facts_moved : (m : Mode) (s : State) → Facts s → is_mode s.desk.mode m ≡ false → is_mode s.desk.mode Trip ≡ false → s.desk.pending ≡ false →
    LevelFits (with_mode m s.desk) → Facts (entered m s) × (number_of class.Mode (entered m s).waiting ≡ 0)
facts_moved m s f d t p v = facts_entered m s d (λ _. f.0 t) p v (holds_fit s.desk s.waiting f.3) (queue_of s f)

-- a request is raised where there is room for it and it is not asked for yet
pub facts_raised : (c : Class) (n : ℕ) (t : Bool) (s : State) → Facts s →
    (is_mode s.desk.mode Trip ≡ false → eqb (class_number c) 0 ≡ false) → (s.desk.pending ≡ true → eqb (class_number c) 1 ≡ false) →
    fitting s.desk (request c n t s) ≡ true → number_of c s.waiting < limit c → AllByRecursion (λ x. is_for c n x ≡ false) s.waiting → Facts (raised c n t s)
facts_raised c n t s f a b g h k =
    let r = request c n t s in
    let l = s.waiting in
    let q = queue_put r l h k (queue_of s f) in (
      (λ e. let z = a e in omega (arith, simp z at (number_put class.Trip r l), f.0 e)),
      (λ e. let z = b e in let x = f.1 e in (x.0, x.1, omega (arith, simp z at (number_put class.Mode r l), x.2))),
      f.2,
      all_put before (λ x. fitting s.desk x ≡ true) r l g f.3,
      q.0,
      q.1,
      q.2,
    )

-- a request is raised where none of its class waits
pub facts_alone : (c : Class) (n : ℕ) (t : Bool) (s : State) → Facts s →
    (is_mode s.desk.mode Trip ≡ false → eqb (class_number c) 0 ≡ false) → (s.desk.pending ≡ true → eqb (class_number c) 1 ≡ false) →
    fitting s.desk (request c n t s) ≡ true → number_of c s.waiting ≡ 0 → Facts (raised c n t s)
facts_alone c n t s f a b g h = facts_raised c n t s f a b g (omega (arith, some_room c)) (none_for c n s.waiting h)

-- fewer wait
pub facts_kept : (p : Request → Bool) (s : State) → Facts s → Facts (on_waiting (filter p) s)
facts_kept p s f =
    let l = s.waiting in
    let q = queue_kept p l (queue_of s f) in (
      (λ e. omega (arith, tally_kept (of_class class.Trip) p l, f.0 e)),
      (λ e. let x = f.1 e in (x.0, x.1, omega (arith, tally_kept (of_class class.Mode) p l, x.2))),
      f.2,
      all_kept_by p (λ r. fitting s.desk r ≡ true) l f.3,
      q.0,
      q.1,
      q.2,
    )

-- from a mode that is none of Standby, Shunting, Unfitted, Trip, Post Trip and System Failure, another but Unfitted is entered
pub facts_left : (m : Mode) (s : State) → Facts s → (is_mode s.desk.mode StaffResponsible || supervised s.desk.mode) ≡ true →
    is_mode s.desk.mode m ≡ false → is_mode m Unfitted ≡ false → Facts (entered m s) × (number_of class.Mode (entered m s).waiting ≡ 0)
facts_left m s f e d u =
    facts_moved m s f d (grind (arith, nat_tests)) (no_start s f.1 (grind (arith, nat_tests))) (fits_above (with_mode m s.desk) (above_zero s.desk f.2 (grind (arith, nat_tests))) u)

-- from such a mode the unit trips
pub facts_tripped : (s : State) → Facts s → (is_mode s.desk.mode StaffResponsible || supervised s.desk.mode) ≡ true → Facts (raised class.Trip 0 false (entered Trip s))
facts_tripped s f e =
    let d : is_mode s.desk.mode Trip ≡ false = grind (arith, nat_tests) in
    let n : number_of class.Trip (entered Trip s).waiting ≡ 0 =
    cond_both (is_mode s.desk.mode Trip) s.waiting (filter (not_of_class class.Mode) s.waiting) (λ l. number_of class.Trip l ≡ 0)
    (λ _. f.0 d) (λ _. number_other class.Trip class.Mode refl s.waiting ∙ f.0 d) in
    facts_alone class.Trip 0 false (entered Trip s) (facts_left Trip s f e d refl).0 (λ k. against k refl) (λ _. refl) refl n

-- where no hold for 0 waits, no hold waits
pub no_hold : (l : List Request) → AllByRecursion (λ r. hold_fits r ≡ true) l → waits class.Hold 0 l ≡ false → number_of class.Hold l ≡ 0
no_hold l h e =
    tally-none (of_class class.Hold) l
    (all_both (λ r. hold_fits r ≡ true) (λ r. is_for class.Hold 0 r ≡ false) (λ r. of_class class.Hold r ≡ false) (λ r a b. grind (arith, nat_tests)) l h (none-some (is_for class.Hold 0) l e))

-- the facts of the state that a change leads to
abbrev After : Change → Type 0
After h = Facts h.state

-- a cycle: the watch on a moving train
facts_watched : (s : State) → Facts s → Facts (watched s).state
unfolding watched
facts_watched s f =
    cond_both (moving s.speed && startable s.desk.mode && not (waits class.Hold 0 s.waiting)) _ _ After
    (λ e. facts_alone class.Hold 0 false s f (λ _. refl) (λ _. refl) refl (no_hold s.waiting (holds_fit s.desk s.waiting f.3) (grind (arith, nat_tests))))
    (λ _. cond_both (moving s.speed && supervised s.desk.mode && not s.desk.authority) _ _ After
    (λ e. facts_tripped s f (grind (arith, nat_tests)))
    (λ _. f))

-- a list of waiting requests in place of another
abbrev pub with_waiting : List Request → State → State
with_waiting l s = on_waiting (λ _. l) s

-- nothing waits, and no start is pending
pub facts_empty : (s : State) → s.desk.pending ≡ false → LevelFits s.desk → Facts (with_waiting [] s)
facts_empty s p v = ((λ _. refl), against p, v, tt, (omega arith, omega arith, omega arith, omega arith, omega arith), tt, tt)

-- a cycle
facts_cycle : (speed : Option ℕ) (s : State) → Facts s → Facts (cycle_change speed s).state
unfolding cycle_change counted lapsed
facts_cycle speed s f =
    cond_both (ltb s.cycle 4294967295) _ _ After (λ _. facts_watched (lapsed (counted (given speed s))) f) (λ _. facts_empty (failing s) refl (fits_anywhere (failing s).desk refl refl))

-- a pending start ends
facts_unpending : (s : State) → Facts s → Facts (on_desk (with_pending false) s)
facts_unpending s f = (f.0, against refl, f.2, f.3, f.4, f.5, f.6)

-- an authority for a mode of the list, where it is heard
facts_authority : (m : Mode) (s : State) → Facts s → is_listed m ≡ true → hears_authority s.desk.mode s.desk.pending ≡ true → After (authority_change m (authorized s))
unfolding authority_change
facts_authority m s f j h =
    let u = authorized s in
    let listed : supervised m ≡ true = sym (listed_is m) ∙ j in
    let heard : (is_mode s.desk.mode StaffResponsible || supervised s.desk.mode || (startable s.desk.mode && s.desk.pending)) ≡ true =
    sym (authority_is s.desk.mode s.desk.pending) ∙ h in
    let zero : is_level s.desk.level Zero ≡ false =
    elim (cases_Bool s.desk.pending) [
      | inl p ↦ let v = (f.1 p).1 in grind (arith, nat_tests)
      | inr p ↦ above_zero s.desk f.2 (grind (arith, nat_tests))
    ] in
    let same : Facts u = facts_unpending s f in
    cond_both (is_mode s.desk.mode m) _ _ After (λ _. same)
    (λ e.
    let new = facts_moved m u same e (grind (arith, nat_tests)) refl (fits_above (with_mode m u.desk) zero (grind (arith, nat_tests))) in
    cond_both (is_mode m FullSupervision) _ _ After (λ _. new.0)
    (λ _. facts_alone class.Mode (mode_code m) true (entered m u) new.0 (λ _. refl) (against refl) refl new.1))

-- in a mode where no untimed mode request waits, the level says nothing
pub level_fits : (l : Level) (d : Desk) (r : Request) → startable d.mode ≡ false → fitting d r ≡ true → fitting (with_level l d) r ≡ true
level_fits l d r e h = let o : Bool = r.timed in grind (arith, nat_tests)

-- an order of another level, where it is heard
facts_level : (l : Level) (s : State) → Facts s → hears_level s.desk.mode ≡ true → is_level l s.desk.level ≡ false → After (level_change s.desk.level l s)
unfolding level_change
facts_level l s f j other =
    let m = s.desk.mode in
    let w = s.waiting in
    let p = not_of_class class.Level in
    let heard : (is_mode m StaffResponsible || supervised m || is_mode m Unfitted) ≡ true = sym (level_is m) ∙ j in
    let start : startable m ≡ false = grind (arith, nat_tests) in
    let pend = no_start s f.1 start in
    let trips : number_of class.Trip (filter p w) ≡ 0 = omega (arith, tally_kept (of_class class.Trip) p w, f.0 (grind (arith, nat_tests))) in
    let queue = queue_kept p w (queue_of s f) in
    let fit = all_kept_by p (λ r. fitting s.desk r ≡ true) w f.3 in
    let hold = holds_fit s.desk (filter p w) fit in
    let low : is_level s.desk.level Zero ≡ false → is_mode m Unfitted ≡ false =
    λ e. elim (cases_Bool (is_mode m Unfitted)) [ inl k ↦ against e (f.2.1 k) | inr k ↦ k ] in
    cond_both (is_level l Zero) _ _ After
    (λ e.
    let new = facts_entered Unfitted (levelled l s) (low (grind (arith, nat_tests))) (λ _. trips) pend ((λ _. refl), (λ _. e)) hold queue in
    facts_alone class.Mode 6 true (entered Unfitted (levelled l s)) new.0 (λ _. refl) (against pend) refl new.1)
    (λ e. cond_both (is_level s.desk.level Zero) _ _ After
    (λ g.
    let zero = f.2.0 g in
    let new = facts_entered StaffResponsible (levelled l s) (grind (arith, nat_tests)) (λ _. trips) pend (fits_above (with_mode StaffResponsible (with_level l s.desk)) e refl) hold queue in
    facts_alone class.Mode 1 true (entered StaffResponsible (levelled l s)) new.0 (λ _. refl) (against pend) refl new.1)
    (λ g.
    let new : Facts (levelled l s) = (
      (λ _. trips),
      (against pend),
      fits_above (with_level l s.desk) e (low g),
      All-weaker (λ r. fitting s.desk r ≡ true) (λ r. fitting (with_level l s.desk) r ≡ true) (λ r. level_fits l s.desk r start) (filter p w) fit,
      queue.0,
      queue.1,
      queue.2,
    ) in
    facts_alone class.Level (level_number l) true (levelled l s) new (λ _. refl) (λ _. refl) refl (number_withdrawn class.Level w)))

-- a text
facts_text : (n : ℕ) (wanted : Bool) (s : State) → Facts s → text_refusal n wanted s ≡ None → After (text_change n wanted s)
facts_text n false s f h = f
facts_text n true s f h =
    let a = cond-none (waits class.Text n s.waiting) TextWaits _ h in
    let b = cond-none (leb 12 (number_of class.Text s.waiting)) TwelveTextsWait None a.1 in
    facts_raised class.Text n true s f (λ _. refl) (λ _. refl) refl (leb-false 12 _ b.0) (none-some (is_for class.Text n) s.waiting a.0)

-- an order that is not refused
facts_order : (o : OrderValue) (s : State) → Facts s → order_refusal o s ≡ None → After (order_change o s)
facts_order (authority m) s f h =
    let a = needing-none (is_listed m) OutsideList _ h in
    let b = needing-none (hears_authority s.desk.mode s.desk.pending) NotHeard None a.1 in
    facts_authority m s f a.0 b.0
facts_order (level l) s f h =
    let a = needing-none (leb l 2) OutsideList _ h in
    let b = needing-none (hears_level s.desk.mode) NotHeard None a.1 in
    cond_both (is_level (level_of l) s.desk.level) _ _ After (λ _. f) (λ e. facts_level (level_of l) s f b.0 e)
facts_order (text n wanted t) s f h = facts_text n wanted s f h
facts_order (withdrawal n) s f h = facts_kept (λ r. not (is_for class.Text n r)) s f
facts_order stop s f h = facts_tripped s f (sym (stop_is s.desk.mode) ∙ (needing-none (hears_stop s.desk.mode) NotHeard None h).0)
facts_order sign s f h = f
facts_order permission s f h =
    let p = f.1 (needing-none s.desk.pending NotHeard None h).0 in
    let v = p.1 in
    let start = p.0 in
    facts_alone class.Mode 1 false (on_desk (with_pending false) s) (facts_unpending s f) (λ _. refl) (against refl) (grind (arith, nat_tests)) p.2

-- without the first
pub facts_rest : (r : Request) (l : List Request) (s : State) → Facts (with_waiting (r ∷ l) s) → Facts (with_waiting l s)
facts_rest r l s f =
    let q = queue_rest r l (f.4, f.5, f.6) in
    ((λ e. omega (arith, f.0 e)), (λ e. let x = f.1 e in (x.0, x.1, omega (arith, x.2))), f.2, f.3.1, q.0, q.1, q.2)

-- a trip is acknowledged
acknowledged_trip : (r : Request) (l : List Request) (s : State) → Facts (with_waiting (r ∷ l) s) → of_class class.Trip r ≡ true → Facts (entered PostTrip (with_waiting l s))
acknowledged_trip r l s f e =
    let m = s.desk.mode in
    let few : 1 + number_of class.Trip l ≤ 1 = simp e at f.4.0 in
    let trip : is_mode m Trip ≡ true = elim (cases_Bool (is_mode m Trip)) [
      | inl k ↦ k
      | inr k ↦ let none : 1 + number_of class.Trip l ≡ 0 = simp e at (f.0 k) in absurd (omega arith)
    ] in
    (facts_entered PostTrip (with_waiting l s) (grind (arith, nat_tests)) (λ _. omega arith) (no_start (with_waiting (r ∷ l) s) f.1 (grind (arith, nat_tests)))
    (fits_above (with_mode PostTrip s.desk) (above_zero s.desk f.2 (grind (arith, nat_tests))) refl) (holds_fit s.desk l f.3.1) (queue_rest r l (f.4, f.5, f.6))).0

-- what is told of an untimed mode request
pub asked_fits : (d : Desk) (r : Request) → fitting d r ≡ true → (of_class class.Mode r && not r.timed) ≡ true →
    (startable d.mode && cond (is_level d.level Zero) (eqb r.number 6) (eqb r.number 1)) ≡ true
asked_fits d r h e = (and_parts _ _ (simp e at h)).0

-- an untimed mode request is acknowledged
acknowledged_mode : (r : Request) (l : List Request) (s : State) → Facts (with_waiting (r ∷ l) s) → (of_class class.Mode r && not r.timed) ≡ true →
    Facts (entered (cond (eqb r.number 6) Unfitted StaffResponsible) (with_waiting l s))
acknowledged_mode r l s f e =
    let m = s.desk.mode in
    let fit = asked_fits s.desk r f.3.0 e in
    let start = (and_parts (startable m) _ fit).0 in
    let mode = (and_parts _ (not r.timed) e).0 in
    let pend : s.desk.pending ≡ false = elim (cases_Bool s.desk.pending) [
      | inl k ↦ let none : 1 + number_of class.Mode l ≡ 0 = simp mode at (f.1 k).2 in absurd (omega arith)
      | inr k ↦ k
    ] in
    let new : (n : Mode) → is_mode m n ≡ false → LevelFits (with_mode n s.desk) → Facts (entered n (with_waiting l s)) =
    λ n d v. (facts_moved n (with_waiting l s) (facts_rest r l s f) d (grind (arith, nat_tests)) pend v).0 in
    cond_both (eqb r.number 6) Unfitted StaffResponsible (λ n. Facts (entered n (with_waiting l s)))
    (λ k. new Unfitted (grind (arith, nat_tests)) ((λ _. refl), (λ _. grind (arith, nat_tests))))
    (λ k. new StaffResponsible (grind (arith, nat_tests)) (fits_above (with_mode StaffResponsible s.desk) (grind (arith, nat_tests)) refl))

-- the first is acknowledged
acknowledged_first : (l : List Request) (s : State) → Facts (with_waiting l s) → After (acknowledge_change (with_waiting l s))
unfolding acknowledge_change
acknowledged_first [] s f = f
acknowledged_first (r ∷ l) s f =
    let P : Option Mode → Type 0 = λ o. Facts (entered_if o (with_waiting l s)) in
    cond_both (of_class class.Trip r) _ _ P (acknowledged_trip r l s f)
    (λ _. cond_both (of_class class.Mode r && not r.timed) _ _ P (acknowledged_mode r l s f) (λ _. facts_rest r l s f))

-- there are three levels
level-small : (l : Level) → level_number l ≤ 2
level-small Zero = omega arith
level-small One = omega arith
level-small Two = omega arith

-- Start
facts_start : (s : State) → Facts s → enabled button.Start s ≡ true → After (start_change s)
unfolding start_change enabled
facts_start s f h =
    let start : startable s.desk.mode ≡ true = grind (arith, nat_tests) in
    let none : number_of class.Mode s.waiting ≡ 0 = grind (arith, nat_tests) in
    let pend : s.desk.pending ≡ false = grind (arith, nat_tests) in
    let small = level-small s.desk.level in
    let ask : (n : ℕ) → fitting s.desk (request class.Mode n false s) ≡ true → Facts (raised class.Mode n false s) =
    λ n g. facts_alone class.Mode n false s f (λ _. refl) (against pend) g none in
    cond_both (is_level s.desk.level Two) _ _ After (λ v. (f.0, (λ _. (start, v, none)), f.2, f.3, f.4, f.5, f.6))
    (λ two. cond_both (is_level s.desk.level One) _ _ After (λ one. ask 1 (simp start (grind (arith, nat_tests)))) (λ one. ask 6 (simp start (grind (arith, nat_tests)))))

-- Shunting
facts_shunting : (s : State) → Facts s → enabled button.Shunting s ≡ true → Facts (entered Shunting s)
unfolding enabled
facts_shunting s f h =
    let pend : s.desk.pending ≡ false = elim (cases_Bool s.desk.pending) [
      | inl k ↦ let two = (f.1 k).1 in against {b = leb (level_number s.desk.level) 1} (grind (arith, nat_tests)) (grind (arith, nat_tests))
      | inr k ↦ k
    ] in
    (facts_moved Shunting s f (grind (arith, nat_tests)) (grind (arith, nat_tests)) pend (fits_anywhere (with_mode Shunting s.desk) refl refl)).0

-- Exit shunting
facts_exit : (s : State) → Facts s → enabled button.ExitShunting s ≡ true → Facts (entered Standby s)
unfolding enabled
facts_exit s f h =
    (facts_moved Standby s f (grind (arith, nat_tests)) (grind (arith, nat_tests)) (no_start s f.1 (grind (arith, nat_tests))) (fits_anywhere (with_mode Standby s.desk) refl refl)).0

-- Override
facts_override : (s : State) → Facts s → enabled button.Override s ≡ true → Facts (entered StaffResponsible s)
unfolding enabled
facts_override s f h = (facts_left StaffResponsible s f (grind (arith, nat_tests)) (grind (arith, nat_tests)) refl).0

-- a level button
facts_set : (l : Level) (s : State) → Facts s → settable s ≡ true → Facts (on_desk (with_level l) s)
facts_set l s f h =
    let pend : s.desk.pending ≡ false = grind (arith, nat_tests) in
    facts_unasked (on_desk (with_level l) s) f.0 (against pend)
    (fits_anywhere (with_level l s.desk) (grind (arith, nat_tests)) (grind (arith, nat_tests))) (grind (arith, nat_tests)) (holds_fit s.desk s.waiting f.3) (queue_of s f)

-- Close desk
facts_close : (s : State) → Facts s → enabled button.CloseDesk s ≡ true → After (close_change s)
unfolding close_change enabled
facts_close s f h =
    let l = s.waiting in
    let k = filter (not_of_class class.Mode) l in
    let u : State = with_waiting k (on_desk (λ d. with_pending false (with_authority false (with_mode Standby d))) (without_train s)) in
    let trips = f.0 (grind (arith, nat_tests)) in
    let new : Facts u =
    facts_unasked u (λ _. number_other class.Trip class.Mode refl l ∙ trips) (against refl) (fits_anywhere u.desk refl refl)
    (number_withdrawn class.Mode l) (all_kept_by (not_of_class class.Mode) (λ r. hold_fits r ≡ true) l (holds_fit s.desk l f.3)) (queue_kept (not_of_class class.Mode) l (queue_of s f)) in
    facts_kept (not_of_class class.Text) (with_waiting (filter (not_of_class class.Level) k) u) (facts_kept (not_of_class class.Level) u new)

-- an enabled level button
level_button : (l : Level) (s : State) → enabled (button.Level l) s ≡ true → settable s ≡ true
unfolding enabled
level_button l s h = h

-- a press of an enabled button
facts_press : (b : Button) (s : State) → Facts s → enabled b s ≡ true → After (press_change b s)
unfolding press_change
facts_press button.Acknowledge s f h = acknowledged_first s.waiting s f
facts_press button.Start s f h = facts_start s f h
facts_press button.Shunting s f h = facts_shunting s f h
facts_press button.ExitShunting s f h = facts_exit s f h
facts_press button.Override s f h = facts_override s f h
facts_press (button.Level l) s f h = facts_set l s f (level_button l s h)
facts_press button.CloseDesk s f h = facts_close s f h

-- a press that is not refused
facts_pressed : (o : Option Button) (s : State) → Facts s → press_refusal o s ≡ None → After (pressed o s)
facts_pressed None s f h = absurd (none_is_not_some NoSuchButton (sym h))
facts_pressed (Some b) s f h = facts_press b s f (needing-none (enabled b s) ButtonNotEnabled None h).0

-- an accepted call
facts_changed : (reads : List ℕ → Option ℕ) (e : Event) (s : State) → Facts s → call_refusal e s ≡ None → After (changed reads e s)
facts_changed reads (cycle block) s f h = facts_cycle (reads block) s f
facts_changed reads (order o) s f h = facts_order o s f h
facts_changed reads (press n) s f h = facts_pressed (button_numbered n) s f h
facts_changed reads (take t) s f h = f

-- a call, refused or not
facts_at : (reads : List ℕ → Option ℕ) (e : Event) (s : State) → Facts s → (o : Option Refusal) → refusal e s ≡ o → Facts (state_at o s (changed reads e s))
facts_at reads e s f None h = facts_settled (changed reads e s).state (facts_changed reads e s f (accepted e s h).1)
facts_at reads e s f (Some r) h = f

-- a unit just switched on has the facts
pub facts_on : (speed : Option ℕ) → Facts (switched_on speed)
unfolding settled
facts_on speed = facts_empty (switched_on speed) refl (fits_anywhere (switched_on speed).desk refl refl)

-- and a call keeps them
pub facts_step : (reads : List ℕ → Option ℕ) (e : Event) (s : State) → Facts s → Facts (next reads e s)
facts_step reads e s f = facts_at reads e s f (refusal e s) refl
