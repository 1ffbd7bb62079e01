-- The last entry of a mode and the mode requests that wait: what each kind of accepted call does to them.
use Rattle.std.proofs.Common.{◌≡◌, ℕ, ◌+◌, ◌<◌, Bool, true, false, List, [], ◌∷◌, Some, None, filter, Option, sym, refl, ap, ◌∙◌, subst, subst₂, arith}
use Rattle.std.proofs.lemmas.Bool.{both_ways, not-true}
use Rattle.std.proofs.lemmas.Bool.Decides.{nat_tests}
use Rattle.telegram.specs.declared.modes.Mode.{Mode}
use Rattle.cab_unit.specs.Events.{Event}
use Rattle.cab_unit.specs.Line.{settled}
use Rattle.cab_unit.specs.Moves.{Change, change, raising, request, entered, on_waiting}
use Rattle.driver_desk.specs.Numbers.{is_mode}
use Rattle.driver_desk.specs.Requests.{before, of_class, not_of_class, overdue}
use Rattle.driver_desk.specs.Sorting.{put, some}
use Rattle.cab_unit.specs.State.{State}
use Rattle.cab_unit.specs.Steps.{answering}
use Rattle.driver_desk.specs.declared.answer.Answer.{Answer}
use Rattle.driver_desk.specs.declared.request.Class.TheVariants as class
use Rattle.driver_desk.specs.declared.request.Request.{Request}
use Rattle.bench.specs.Book.{identical, same_mark}
use Rattle.bench.specs.Entries.{Entry, cycles_of, overrides, acknowledges, answers_for, entering, entry_at, confirmable}
use Rattle.bench.proofs.Passing.{kept_put_other, kept_put_alone, kept_nothing}

-- the mode requests of a list
abbrev pub modes_in : List Request → List Request
modes_in l = filter (of_class class.Mode) l

-- of class mode, if it is one
abbrev pub of_mode : Option Request → Bool
of_mode None = true
of_mode (Some r) = of_class class.Mode r

-- of another class, if it is one
abbrev pub of_other : Option Request → Bool
of_other None = true
of_other (Some r) = not_of_class class.Mode r

-- an entry and the mode requests that wait: none and it is confirmed, or the timed one that it raised and it is not
abbrev pub Awaits : Entry → ℕ → List Request → Type 0
Awaits t now [] = (t.confirmed ≡ 1) × (of_mode t.asked ≡ true)
Awaits t now (q ∷ []) = (t.confirmed ≡ 0) × (t.asked ≡ Some q) × (of_class class.Mode q ≡ true) × (q.timed ≡ true) × (q.raised + t.stood ≡ now)
Awaits t now (q ∷ r ∷ rs) = ⊥

-- so it is in every mode that wants to be confirmed
abbrev pub Stands : Entry → State → Type 0
Stands t s = confirmable s.desk.mode ≡ true → Awaits t s.cycle (modes_in s.waiting)

-- the answer to an accepted call
abbrev pub answered : Change → Answer
answered h = answering None h.raising h.ended h.withdrawn (settled h.state)

-- an accepted call that changes s by h keeps the entry right
unfoldable pub Keeps : Event → State → Change → Type 0
Keeps e s h = (t : Entry) → t.mode ≡ s.desk.mode → Stands t s → Stands (entry_at None e (answered h) t) (settled h.state)

-- a mode is the same as itself
same-mode : (m : Mode) → is_mode m m ≡ true
same-mode m = grind (arith, nat_tests)

-- a mode is entered, or stays, that wants no confirmation
pub leaves : (e : Event) (s : State) (h : Change) → confirmable h.state.desk.mode ≡ false → Keeps e s h
unfolding Keeps settled
leaves e s h f t m k o = absurd (both_ways (confirmable h.state.desk.mode) f o)

-- the acknowledgement of another class is not for an entry
other-answer : (o asked : Option Request) → of_other o ≡ true → of_mode asked ≡ true → answers_for o asked ≡ 0
other-answer None asked h k = refl
other-answer (Some r) None h k = refl
other-answer (Some r) (Some q) h k = let z : identical r q ≡ false = grind (arith, nat_tests) in simp z

-- so the call leaves what the entry awaits
awaits_on : (e : Event) (a : Answer) (t : Entry) (now : ℕ) (l : List Request) → of_other a.acknowledged ≡ true → Awaits t now l → Awaits (entering true e a t) (now + cycles_of e) l
awaits_on e a t now [] f k = (omega (arith, k.0, other-answer a.acknowledged t.asked f k.1), k.1)
awaits_on e a t now (q ∷ []) f k =
    let g : of_mode t.asked ≡ true = ap of_mode k.1 ∙ k.2 in
    (omega (arith, k.0, other-answer a.acknowledged t.asked f g), k.1, k.2, k.3, omega (arith, k.4))
awaits_on e a t now (q ∷ r ∷ rs) f k = absurd k

-- the mode stays, and what the entry awaits is followed through the call
pub stays_by : (e : Event) (s : State) (h : Change) → h.state.desk.mode ≡ s.desk.mode →
    ((t : Entry) → Awaits t s.cycle (modes_in s.waiting) → Awaits (entering true e (answered h) t) h.state.cycle (modes_in h.state.waiting)) → Keeps e s h
unfolding Keeps settled
stays_by e s h m f t n k =
    let g : is_mode t.mode h.state.desk.mode ≡ true = ap (λ (x : Mode). is_mode x h.state.desk.mode) (n ∙ sym m) ∙ same-mode h.state.desk.mode in
    let P : Bool → Type 0 = λ v. Stands (entering v e (answered h) t) (settled h.state) in
    subst P (sym g) (λ o. f t (k (ap confirmable (sym m) ∙ o)))

-- the mode stays with its mode requests, and what is acknowledged, if anything, is of another class
pub stays : (e : Event) (s : State) (h : Change) → h.state.desk.mode ≡ s.desk.mode → h.state.cycle ≡ s.cycle + cycles_of e →
    modes_in h.state.waiting ≡ modes_in s.waiting → of_other h.ended ≡ true → Keeps e s h
stays e s h m c w f =
    stays_by e s h m (λ t k.
    let Q : ℕ → List Request → Type 0 = Awaits (entering true e (answered h) t) in
    subst₂ Q (sym c) (sym w) (awaits_on e (answered h) t s.cycle (modes_in s.waiting) f k))

-- another mode is entered, and the mode requests that then wait are l
enters : (e : Event) (s : State) (h : Change) (l : List Request) → is_mode s.desk.mode h.state.desk.mode ≡ false →
    modes_in h.state.waiting ≡ l → ((t : Entry) → Awaits (entering false e (answered h) t) h.state.cycle l) → Keeps e s h
unfolding Keeps settled
enters e s h l m w f t n k =
    let g : is_mode t.mode h.state.desk.mode ≡ false = ap (λ (x : Mode). is_mode x h.state.desk.mode) n ∙ m in
    let P : Bool → Type 0 = λ v. Stands (entering v e (answered h) t) (settled h.state) in
    let Q : List Request → Type 0 = Awaits (entering false e (answered h) t) h.state.cycle in
    subst P (sym g) (λ o. subst Q (sym w) (f t))

-- another mode is entered with its timed request
pub enters-asked : (e : Event) (s u : State) (n k : ℕ) → is_mode s.desk.mode u.desk.mode ≡ false → modes_in u.waiting ≡ [] →
    overrides e ≡ 0 → Keeps e s (raising class.Mode n true u k)
enters-asked e s u n k m w f =
    let q = request class.Mode n true u in
    enters e s (raising class.Mode n true u k) (q ∷ []) m (kept_put_alone before (of_class class.Mode) q refl u.waiting w)
    (λ t. (omega arith, refl, refl, refl, omega arith))

-- another mode is entered by an acknowledgement or by Override
pub enters-confirmed : (e : Event) (s u : State) (o : Option Request) (k : ℕ) → is_mode s.desk.mode u.desk.mode ≡ false → modes_in u.waiting ≡ [] →
    acknowledges o + overrides e ≡ 1 → Keeps e s (change u None o k)
enters-confirmed e s u o k m w f = enters e s (change u None o k) [] m w (λ t. (f, refl))

-- the mode stays, and a request of another class is raised
pub stays-raising : (e : Event) (s u : State) (r : Request) (k : ℕ) → u.desk.mode ≡ s.desk.mode → u.cycle ≡ s.cycle + cycles_of e →
    modes_in u.waiting ≡ modes_in s.waiting → not_of_class class.Mode r ≡ true → Keeps e s (change (on_waiting (put before r) u) (Some r) None k)
stays-raising e s u r k m c w f =
    stays e s (change (on_waiting (put before r) u) (Some r) None k) m c (kept_put_other before (of_class class.Mode) r (not-true (of_class class.Mode r) f) u.waiting ∙ w) refl

-- entering another mode withdraws class mode
pub entered-none : (m : Mode) (u : State) → is_mode u.desk.mode m ≡ false → modes_in (entered m u).waiting ≡ []
entered-none m u f = simp f (kept_nothing (of_class class.Mode) (not_of_class class.Mode) (λ r h. not-true (of_class class.Mode r) h) u.waiting)

-- a request is identical to itself
same_mark_lem : (b : Bool) → same_mark b b ≡ true
same_mark_lem true = refl
same_mark_lem false = refl

identical_self : (r : Request) → identical r r ≡ true
identical_self r = let k = same_mark_lem r.timed in grind (arith, nat_tests)

-- the acknowledgement of the request that an entry awaits confirms it
pub awaits_answer : (e : Event) (a : Answer) (t : Entry) (r : Request) (now now' : ℕ) (l : List Request) → a.acknowledged ≡ Some r → Awaits t now (r ∷ l) → Awaits (entering true e a t) now' l
awaits_answer e a t r now now' [] f k =
    let self = identical_self r in
    let one : answers_for a.acknowledged t.asked ≡ 1 = simp (f, k.1, self) in
    (omega (arith, one, k.0), ap of_mode k.1 ∙ k.2)
awaits_answer e a t r now now' (q ∷ qs) f k = absurd k

-- an entry over 50 cycles old that awaits nothing overdue is confirmed
pub awaits_none_late : (t : Entry) (now : ℕ) (l : List Request) → Awaits t now l → 50 < t.stood → some (overdue now) l ≡ false → t.confirmed ≡ 1
awaits_none_late t now [] k long h = k.0
awaits_none_late t now (q ∷ []) k long h = let timed = k.3 in let since = k.4 in grind (arith, nat_tests)
awaits_none_late t now (q ∷ r ∷ rs) k long h = absurd k
