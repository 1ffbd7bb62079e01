-- What an accepted call does to the waiting requests goes by the book's rules.
use Rattle.std.proofs.Common.{◌≡◌, ℕ, ◌+◌, ◌<◌, Bool, true, false, cond, not, ◌&&◌, ◌||◌, eqb, ltb, List, [], ◌∷◌, length, Some, None, filter, Option, sym, refl, subst, inl, inr, arith}
use Rattle.std.proofs.lemmas.Bool.{cases_Bool, cond_both}
use Rattle.std.proofs.lemmas.Bool.Decides.{nat_tests}
use Rattle.telegram.specs.Format.{OrderValue, OrderValue.authority, OrderValue.level, OrderValue.text, OrderValue.withdrawal, OrderValue.stop, OrderValue.sign, OrderValue.permission}
use Rattle.telegram.specs.Modes.{mode_code}
use Rattle.telegram.specs.declared.modes.Mode.{Mode}
use Rattle.telegram.specs.declared.modes.Mode.TheVariants.{Standby, StaffResponsible, FullSupervision, OnSight, LimitedSupervision, Shunting, Unfitted, Trip, PostTrip, SystemFailure}
use Rattle.train_end.specs.declared.brake_line.BrakeLine.{BrakeLine}
use Rattle.cab_unit.specs.Buttons.{button_numbered, supervised, startable}
use Rattle.cab_unit.specs.declared.button.Button.{Button}
use Rattle.cab_unit.specs.declared.button.Button.TheVariants as button
use Rattle.cab_unit.specs.Cycles.{given, counted, lapsed, watched, cycle_change}
use Rattle.cab_unit.specs.Events.{Event, Event.cycle, Event.order, Event.press, Event.take}
use Rattle.cab_unit.specs.Facts.{Apart}
use Rattle.cab_unit.specs.Heard.{is_listed}
use Rattle.cab_unit.specs.Moves.{with_authority, with_pending, on_desk, entered, withdrawn_at, failing, Change, change, raising}
use Rattle.driver_desk.specs.Numbers.{is_mode, is_level, level_number, level_of}
use Rattle.cab_unit.specs.Orders.{authorized, unauthorized, authority_change, levelled, level_change, text_change, order_change}
use Rattle.cab_unit.specs.Presses.{enters_by, entered_if, withdrawn_if, acknowledge_change, start_change, close_change, press_change, pressed}
use Rattle.cab_unit.specs.Refusing.{failed, refusal, order_refusal}
use Rattle.driver_desk.specs.Requests.{of_class, not_of_class, is_for, waits, number_of, rest_of}
use Rattle.driver_desk.specs.Sorting.{tally}
use Rattle.cab_unit.specs.State.{State, moving}
use Rattle.cab_unit.specs.Steps.{changed}
use Rattle.cab_unit.specs.declared.desk.Desk.{Desk}
use Rattle.driver_desk.specs.declared.level.Level.{Level}
use Rattle.driver_desk.specs.declared.level.Level.TheVariants.{Zero, One, Two}
use Rattle.driver_desk.specs.declared.request.Class.{Class}
use Rattle.driver_desk.specs.declared.request.Class.TheVariants as class
use Rattle.driver_desk.specs.declared.request.Request.{Request}
use Rattle.driver_desk.specs.declared.train_record.TrainRecord.{TrainRecord}
use Rattle.bench.specs.Book.{names, withdraws, closed, opening, named_open}
use Rattle.cab_unit.proofs.Heard.{cond-none, needing-none}
use Rattle.bench.proofs.Lists.{Parted, parted_by, parted_like, parted-none, parted_all, parted-then, parted_also, tally-some}
use Rattle.bench.proofs.Apartness.{tally-apart-once, closed-first}

-- what is ended is the first of what waits
abbrev pub Ends : Option Request → List Request → Type 0
Ends None l = Unit {0}
Ends (Some r) l = l ≡ r ∷ rest_of l

-- the book's withdrawals, from one desk to another
abbrev pub taking : Event → Desk → Desk → Request → Bool
taking e d d' = withdraws e d.mode d'.mode d.level d'.level

-- a change that goes by the book's rules: the ended is closed, then the withdrawn go, then the raised is opened
pub record Good (e : Event) (s : State) (h : Change) : Type 0 where
  pub rest : List Request
  pub parted : Parted (taking e s.desk h.state.desk) (closed h.ended s.waiting) rest h.withdrawn
  pub shape : h.state.waiting ≡ opening h.raising rest
  pub ends : Ends h.ended s.waiting

-- nothing is ended or raised
good-change : (e : Event) (s u : State) (n : ℕ) → Parted (taking e s.desk u.desk) s.waiting u.waiting n → Good e s (change u None None n)
good-change e s u n b = record { rest = u.waiting; parted = b; shape = refl; ends = tt }

-- one is raised
good-raising : (e : Event) (s u : State) (c : Class) (n : ℕ) (timed : Bool) (k : ℕ) → Parted (taking e s.desk u.desk) s.waiting u.waiting k → Good e s (raising c n timed u k)
good-raising e s u c n timed k b = record { rest = u.waiting; parted = b; shape = refl; ends = tt }

-- the call names nothing where the level becomes l'
abbrev Nameless : Event → Level → Level → Type 0
Nameless e l l' = (r : Request) → names e (not (is_level l l')) r ≡ false

-- a mode is itself
mode_self : (m : Mode) → is_mode m m ≡ true
mode_self m = grind (arith, nat_tests)

-- the mode stays and the call names nothing: nothing goes
parted_stay : (e : Event) (s : State) (l : Level) → Nameless e s.desk.level l →
    Parted (withdraws e s.desk.mode s.desk.mode s.desk.level l) s.waiting s.waiting 0
parted_stay e s l n = parted-none (λ r. let k = n r in let j = mode_self s.desk.mode in simp (j, k)) s.waiting

-- and the level stays too
parted-same : (e : Event) (s : State) → Nameless e s.desk.level s.desk.level → Parted (taking e s.desk s.desk) s.waiting s.waiting 0
parted-same e s n = parted_stay e s s.desk.level n

-- what goes by a change of mode alone
abbrev leaving : Mode → Mode → Request → Bool
leaving m m' r = not (is_mode m m') && (is_mode m' SystemFailure || of_class class.Mode r)

-- entering a mode that is not System Failure
parted_enter : (m m' : Mode) → is_mode m' SystemFailure ≡ false → (w : List Request) →
    Parted (leaving m m') w (cond (is_mode m m') w (filter (not_of_class class.Mode) w)) (cond (is_mode m m') 0 (number_of class.Mode w))
parted_enter m m' q w = elim (cases_Bool (is_mode m m')) [
  | inl f ↦ simp f (parted-none (λ r. simp f) w)
  | inr f ↦ simp f (parted_like (λ r. simp (f, q)) (parted_by (of_class class.Mode) w))
]

-- and the level stays and the call names nothing
parted-entered : (e : Event) (s : State) (m : Mode) → is_mode m SystemFailure ≡ false → Nameless e s.desk.level s.desk.level →
    Parted (taking e s.desk (entered m s).desk) s.waiting (entered m s).waiting (withdrawn_at m s)
parted-entered e s m q n = parted_like (λ r. let k = n r in grind (arith, nat_tests)) (parted_enter s.desk.mode m q s.waiting)

-- a cycle
good-cycle : (reads : List ℕ → Option ℕ) (block : List ℕ) (s : State) → failed s ≡ false → Good (cycle block) s (changed reads (cycle block) s)
unfolding counted lapsed watched cycle_change
good-cycle reads block s f =
    let e = cycle block in
    let m = s.desk.mode in
    let w = s.waiting in
    let u = lapsed (counted (given (reads block) s)) in
    let stays = parted-same e s (λ r. refl) in
    cond_both (ltb s.cycle 4294967295) _ _ (Good e s)
    (λ _. cond_both (moving u.speed && startable m && not (waits class.Hold 0 w)) _ _ (Good e s)
    (λ _. good-raising e s u class.Hold 0 false 0 stays)
    (λ _. cond_both (moving u.speed && supervised m && not u.desk.authority) _ _ (Good e s)
    (λ _. good-raising e s (entered Trip u) class.Trip 0 false (withdrawn_at Trip u) (parted-entered e s Trip refl (λ r. refl)))
    (λ _. good-change e s u 0 stays)))
    (λ _. good-change e s (failing s) (length w) (parted_all (λ r. simp f) w))

-- no authority is for System Failure
listed_runs : (m : Mode) → is_listed m ≡ true → is_mode m SystemFailure ≡ false
listed_runs Standby h = refl
listed_runs StaffResponsible h = refl
listed_runs FullSupervision h = refl
listed_runs OnSight h = refl
listed_runs LimitedSupervision h = refl
listed_runs Shunting h = refl
listed_runs Unfitted h = refl
listed_runs Trip h = refl
listed_runs PostTrip h = refl
listed_runs SystemFailure h = sym h

-- an authority
good-authority : (m' : Mode) (s : State) → is_mode m' SystemFailure ≡ false → Good (order (authority m')) s (order_change (authority m') s)
unfolding authority_change
good-authority m' s q =
    let e = order (authority m') in
    let u = authorized s in
    let enters = parted-entered e s m' q (λ r. refl) in
    cond_both (is_mode s.desk.mode m') _ _ (Good e s)
    (λ _. good-change e s u 0 (parted-same e s (λ r. refl)))
    (λ _. cond_both (is_mode m' FullSupervision) _ _ (Good e s)
    (λ _. good-change e s (entered m' u) (withdrawn_at m' u) enters)
    (λ _. good-raising e s (entered m' u) class.Mode (mode_code m') true (withdrawn_at m' u) enters))

-- a level is itself
level_self : (l : Level) → is_level l l ≡ true
level_self l = grind (arith, nat_tests)

-- which of two levels is named first says nothing
level_sym : (a b : Level) → is_level a b ≡ false → is_level b a ≡ false
level_sym a b h = grind (arith, nat_tests)

-- a level order: class level goes by name, class mode with a change of mode
good-level : (n : ℕ) (s : State) → Good (order (level n)) s (order_change (level n) s)
unfolding level_change
good-level n s =
    let e = order (level n) in
    let m = s.desk.mode in
    let old = s.desk.level in
    let l = level_of n in
    let w = s.waiting in
    let u = levelled l s in
    let named = parted_by (of_class class.Level) w in
    cond_both (is_level l old) _ _ (Good e s)
    (λ _. good-change e s s 0 (parted-same e s (λ r. let j = level_self old in simp j)))
    (λ f.
    let g : is_level old l ≡ false = level_sym l old f in
    let enters : (m' : Mode) → is_mode m' SystemFailure ≡ false → Parted (withdraws e m m' old l) w (entered m' u).waiting (number_of class.Level w + withdrawn_at m' u) = λ m' q.
    parted_like (λ r. simp g (grind (arith, nat_tests))) (parted-then named (parted_enter m m' q u.waiting)) in
    cond_both (is_level l Zero) _ _ (Good e s)
    (λ _. good-raising e s (unauthorized (entered Unfitted u)) class.Mode 6 true _ (enters Unfitted refl))
    (λ _. cond_both (is_level old Zero) _ _ (Good e s)
    (λ _. good-raising e s (entered StaffResponsible u) class.Mode 1 true _ (enters StaffResponsible refl))
    (λ _. good-raising e s u class.Level (level_number l) true _ (parted_like (λ r. let j = mode_self m in simp (j, g)) named))))

-- a text, wanted or not
good-text : (n : ℕ) (wanted : Bool) (t : List ℕ) (s : State) → Good (order (text n wanted t)) s (text_change n wanted s)
good-text n true t s = let e = order (text n true t) in good-raising e s s class.Text n true 0 (parted-same e s (λ r. refl))
good-text n false t s = let e = order (text n false t) in good-change e s s 0 (parted-same e s (λ r. refl))

-- the text that is withdrawn by name waits, and alone
good-withdrawal : (n : ℕ) (s : State) → Apart s.waiting → waits class.Text n s.waiting ≡ true → Good (order (withdrawal n)) s (order_change (withdrawal n) s)
good-withdrawal n s a h =
    let e = order (withdrawal n) in
    let w = s.waiting in
    let p = is_for class.Text n in
    let one : 1 ≡ tally p w = omega (arith, tally-some p w h, tally-apart-once class.Text n w a) in
    let out : Parted p w (filter (λ r. not (p r)) w) 1 = record { stays = refl; gone = one } in
    good-change e s _ 1 (parted_like (λ r. let j = mode_self s.desk.mode in simp j) out)

-- every order that is accepted
good-order : (o : OrderValue) (s : State) → Apart s.waiting → order_refusal o s ≡ None → Good (order o) s (order_change o s)
good-order (authority m') s a h = good-authority m' s (listed_runs m' (needing-none (is_listed m') _ _ h).0)
good-order (level n) s a h = good-level n s
good-order (text n wanted t) s a h = good-text n wanted t s
good-order (withdrawal n) s a h = good-withdrawal n s a (needing-none (waits class.Text n s.waiting) _ _ h).0
good-order stop s a h = good-raising (order stop) s _ class.Trip 0 false _ (parted-entered (order stop) s Trip refl (λ r. refl))
good-order sign s a h = good-change (order sign) s _ 0 (parted-same (order sign) s (λ r. refl))
good-order permission s a h = good-raising (order permission) s _ class.Mode 1 false 0 (parted-same (order permission) s (λ r. refl))

-- a press of another button than Close desk names nothing
press_nameless : (n : ℕ) (l l' : Level) → eqb n 9 ≡ false → Nameless (press n) l l'
press_nameless n l l' h r = simp h

-- not System Failure, where there is a mode
abbrev Runs : Option Mode → Type 0
Runs None = Unit {0}
Runs (Some m) = is_mode m SystemFailure ≡ false

-- the mode that an acknowledgement enters is not System Failure
enters_running : (r : Request) → Runs (enters_by r)
enters_running r = cond_both (of_class class.Trip r) _ _ Runs (λ _. refl)
    (λ _. cond_both (of_class class.Mode r && not r.timed) _ _ Runs
    (λ _. cond_both (eqb r.number 6) _ _ (λ (m : Mode). is_mode m SystemFailure ≡ false) (λ _. refl) (λ _. refl))
    (λ _. tt))

-- a mode is entered, or none
parted-if : (e : Event) (o : Option Mode) (s : State) → Runs o → Nameless e s.desk.level s.desk.level →
    Parted (taking e s.desk (entered_if o s).desk) s.waiting (entered_if o s).waiting (withdrawn_if o s)
parted-if e None s q n = parted-same e s n
parted-if e (Some m) s q n = parted-entered e s m q n

-- Acknowledge, by the list that waits
good-first : (e : Event) (d : Desk) (t : Option TrainRecord) (k : ℕ) (w : List Request) (v : Option ℕ) (b : BrakeLine) → Apart w → Nameless e d.level d.level →
    Good e (record { desk = d; train = t; cycle = k; waiting = w; speed = v; line = b }) (acknowledge_change (record { desk = d; train = t; cycle = k; waiting = w; speed = v; line = b }))
unfolding acknowledge_change
good-first e d t k [] v b a n =
    let s : State = record { desk = d; train = t; cycle = k; waiting = []; speed = v; line = b } in
    good-change e s s 0 (parted-if e None s tt n)
good-first e d t k (r ∷ rs) v b a n =
    let s : State = record { desk = d; train = t; cycle = k; waiting = rs; speed = v; line = b } in
    let o = enters_by r in
    let P : List Request → Type 0 = λ w. Parted (taking e d (entered_if o s).desk) w (entered_if o s).waiting (withdrawn_if o s) in
    record { rest = (entered_if o s).waiting; parted = subst P (sym (closed-first r rs a)) (parted-if e o s (enters_running r) n); shape = refl; ends = refl }

-- Start
good_start : (e : Event) (s : State) → Nameless e s.desk.level s.desk.level → Good e s (start_change s)
unfolding start_change
good_start e s n =
    let l = s.desk.level in
    let stays = parted-same e s n in
    cond_both (is_level l Two) _ _ (Good e s)
    (λ _. good-change e s (on_desk (with_pending true) s) 0 stays)
    (λ _. cond_both (is_level l One) _ _ (Good e s)
    (λ _. good-raising e s s class.Mode 1 false 0 stays)
    (λ _. good-raising e s s class.Mode 6 false 0 stays))

-- Close desk: what goes by the change of mode goes by name too
good_close : (n : ℕ) (s : State) → eqb n 9 ≡ true → Good (press n) s (close_change s)
unfolding close_change
good_close n s h =
    let e = press n in
    let named =
    parted_also (of_class class.Text) (λ r k. grind (arith, nat_tests))
    (parted_also (of_class class.Level) (λ r k. grind (arith, nat_tests)) (parted_by (of_class class.Mode) s.waiting)) in
    good-change e s _ _ (parted_like (λ r. grind (arith, nat_tests)) named)

-- the buttons before Close desk
button_before : (n k : ℕ) → k < 9 → eqb n k ≡ true → eqb n 9 ≡ false
button_before n k b h = grind (arith, nat_tests)

-- every button
good-press : (n : ℕ) (s : State) → Apart s.waiting → Good (press n) s (pressed (button_numbered n) s)
unfolding press_change
good-press n s a =
    let e = press n in
    let l = s.desk.level in
    let nameless : (l' : Level) (k : ℕ) → k < 9 → eqb n k ≡ true → Nameless e l l' = λ l' k b f. press_nameless n l l' (button_before n k b f) in
    let P : Option Button → Type 0 = λ o. Good e s (pressed o s) in
    let set : (l' : Level) (k : ℕ) → k < 9 → eqb n k ≡ true → P (Some (button.Level l')) = λ l' k b f. good-change e s _ 0 (parted_stay e s l' (nameless l' k b f)) in
    cond_both (eqb n 1) _ _ P (λ f. good-first e s.desk s.train s.cycle s.waiting s.speed s.line a (nameless l 1 (omega arith) f))
    (λ _. cond_both (eqb n 2) _ _ P (λ f. good_start e s (nameless l 2 (omega arith) f))
    (λ _. cond_both (eqb n 3) _ _ P (λ f. good-change e s _ _ (parted-entered e s Shunting refl (nameless l 3 (omega arith) f)))
    (λ _. cond_both (eqb n 4) _ _ P (λ f. good-change e s _ _ (parted-entered e s Standby refl (nameless l 4 (omega arith) f)))
    (λ _. cond_both (eqb n 5) _ _ P
    (λ f. good-change e s (on_desk (with_authority false) (entered StaffResponsible s)) _ (parted-entered e s StaffResponsible refl (nameless l 5 (omega arith) f)))
    (λ _. cond_both (eqb n 6) _ _ P (set Zero 6 (omega arith))
    (λ _. cond_both (eqb n 7) _ _ P (set One 7 (omega arith))
    (λ _. cond_both (eqb n 8) _ _ P (set Two 8 (omega arith))
    (λ _. cond_both (eqb n 9) _ _ P (good_close n s)
    (λ k. good-change e s _ 0 (parted_stay e s l (press_nameless n l l k)))))))))))

-- every call that is accepted
pub good : (reads : List ℕ → Option ℕ) (e : Event) (s : State) → Apart s.waiting → refusal e s ≡ None → Good e s (changed reads e s)
good reads (cycle block) s a h = good-cycle reads block s (cond-none (failed s) _ _ h).0
good reads (order o) s a h = good-order o s a (cond-none (failed s) _ _ h).1
good reads (press n) s a h = good-press n s a
good reads (take t) s a h = good-change (take t) s _ 0 (parted-same (take t) s (λ r. refl))

-- a text that an accepted order withdraws by name waits
pub named_open_lem : (e : Event) (s : State) → refusal e s ≡ None → named_open e s.waiting ≡ true
named_open_lem (cycle block) s h = refl
named_open_lem (order (authority m)) s h = refl
named_open_lem (order (level n)) s h = refl
named_open_lem (order (text n wanted t)) s h = refl
named_open_lem (order (withdrawal n)) s h = (needing-none (waits class.Text n s.waiting) _ _ (cond-none (failed s) _ _ h).1).0
named_open_lem (order stop) s h = refl
named_open_lem (order sign) s h = refl
named_open_lem (order permission) s h = refl
named_open_lem (press n) s h = refl
named_open_lem (take t) s h = refl
