-- Accepted texts in another order.
use Rattle.std.proofs.Common.{◌≡◌, ℕ, Bool, true, false, cond, ◌||◌, eqb, leb, List, [], ◌∷◌, Some, None, Option, sym, refl, ap, ◌∙◌, subst, arith}
use Rattle.std.proofs.lemmas.Bool.{or_parts, or_from, true≢false}
use Rattle.std.proofs.lemmas.Bool.Decides.{nat_tests}
use Rattle.telegram.specs.Format.{OrderValue.authority, OrderValue.level, OrderValue.text, OrderValue.withdrawal, OrderValue.stop, OrderValue.sign, OrderValue.permission}
use Rattle.cab_unit.specs.Events.{Event, Event.cycle, Event.order, Event.press, Event.take}
use Rattle.cab_unit.specs.Line.{quieted, settled}
use Rattle.cab_unit.specs.Moves.{request}
use Rattle.cab_unit.specs.Orders.{text_change}
use Rattle.cab_unit.specs.Refusing.{failed, text_refusal, refusal}
use Rattle.driver_desk.specs.Requests.{before, of_class, is_for, waits, number_of}
use Rattle.driver_desk.specs.Sorting.{put}
use Rattle.cab_unit.specs.State.{State}
use Rattle.cab_unit.specs.Steps.{next}
use Rattle.driver_desk.specs.declared.refusal.Refusal.TheVariants.{TextWaits, TwelveTextsWait, InSystemFailure}
use Rattle.driver_desk.specs.declared.request.Class.TheVariants as class
use Rattle.driver_desk.specs.declared.request.Request.{Request}
use Rattle.cab_unit.specs.Events.{is_cycle, is_text}
use Rattle.ordering.specs.Shuffle.{Shuffle, Shuffle.none, Shuffle.keep, Shuffle.swap, Shuffle.both}
use Rattle.bench.specs.Runs.{last_by, after}
use Rattle.bench.proofs.Accepted.{heard}
use Rattle.cab_unit.proofs.Before.{before-order}
use Rattle.cab_unit.proofs.Heard.{cond-none}
use Rattle.cab_unit.proofs.Sorted.{put_comm, some-put, tally-put}
use Rattle.bench.proofs.Speeds.{unread}

-- the request of a text
abbrev asks : ℕ → State → Request
asks n s = request class.Text n true s

-- of two texts with other numbers in one cycle, one is before the other, so they may be put in either first
texts_comm : (n m : ℕ) (s : State) (l : List Request) → eqb n m ≡ false → put before (asks m s) (put before (asks n s) l) ≡ put before (asks n s) (put before (asks m s) l)
texts_comm n m s l h =
    let one : (before (asks m s) (asks n s) || before (asks n s) (asks m s)) ≡ true = grind (arith, nat_tests) in
    put_comm before-order (asks m s) (asks n s) one l

-- text n is accepted in s, where w says whether it wants to be acknowledged
abbrev Passes : ℕ → Bool → State → Type 0
Passes n w s = cond (failed s) (Some InSystemFailure) (text_refusal n w s) ≡ None

-- what it then leaves
abbrev left : ℕ → Bool → State → State
left n w s = settled (text_change n w s).state

-- what an accepted text that wants to be acknowledged tells: it does not wait, and fewer than twelve do
abbrev Fresh : ℕ → List Request → Type 0
Fresh n l = (waits class.Text n l ≡ false) × (leb 12 (number_of class.Text l) ≡ false)

fresh : (n : ℕ) (s : State) → Passes n true s → (failed s ≡ false) × Fresh n s.waiting
fresh n s h =
    let a = cond-none (failed s) InSystemFailure (text_refusal n true s) h in
    let w = cond-none (waits class.Text n s.waiting) TextWaits (cond (leb 12 (number_of class.Text s.waiting)) (Some TwelveTextsWait) None) a.1 in
    (a.0, (w.0, (cond-none (leb 12 (number_of class.Text s.waiting)) TwelveTextsWait None w.1).0))

-- and the other way round
passes : (n : ℕ) (s : State) → failed s ≡ false → Fresh n s.waiting → Passes n true s
passes n s f h = let w = h.0 in let k = h.1 in simp (f, w, k)

-- with another text put in, fewer than twelve still wait
as_many : (n m : ℕ) (s : State) (l : List Request) → leb 12 (number_of class.Text (put before (asks n s) l)) ≡ false → leb 12 (number_of class.Text (put before (asks m s) l)) ≡ false
as_many n m s l h =
    let e : number_of class.Text (put before (asks m s) l) ≡ number_of class.Text (put before (asks n s) l) =
    tally-put before (of_class class.Text) (asks m s) l ∙ sym (tally-put before (of_class class.Text) (asks n s) l) in
    rw e h

-- other numbers either way round
number_sym : (n m : ℕ) → eqb n m ≡ false → eqb m n ≡ false
number_sym n m h = grind (arith, nat_tests)

-- two texts, each accepted in its turn, are so in the other order, and leave the same
turned : (n m : ℕ) (w v : Bool) (s : State) → Passes n w s → Passes m v (left n w s) →
    Passes m v s × Passes n w (left m v s) × (left m v (left n w s) ≡ left n w (left m v s))
unfolding settled
turned n m false false s h k = (h, h, refl)
turned n m false true s h k = (k, h, refl)
turned n m true false s h k = (k, h, refl)
turned n m true true s h k =
    let l = s.waiting in
    let one = fresh n s h in
    let two = fresh m (left n true s) k in
    let apart = or_parts (is_for class.Text m (asks n s)) (waits class.Text m l) (sym (some-put before (is_for class.Text m) (asks n s) l) ∙ two.1.0) in (
      passes m s one.0 (apart.1, one.1.1),
      passes n (left m true s) one.0 (
        some-put before (is_for class.Text n) (asks m s) l ∙ or_from (is_for class.Text n (asks m s)) (waits class.Text n l) (number_sym n m apart.0) one.1.0,
        as_many n m s l two.1.1,
      ),
      ap (λ (q : List Request). settled (record { desk = quieted s.desk; train = s.train; cycle = s.cycle; waiting = q; speed = s.speed; line = s.line }))
          (texts_comm n m s l apart.0),
    )

-- a call is a text order
pub data TextCall : Event → Type 0 where
  is_text_lem : (n : ℕ) (w : Bool) (t : List ℕ) → TextCall (order (text n w t))

-- by its test
pub text-call : (e : Event) → is_text e ≡ true → TextCall e
text-call (cycle block) h = absurd (true≢false (sym h))
text-call (order (authority m)) h = absurd (true≢false (sym h))
text-call (order (level l)) h = absurd (true≢false (sym h))
text-call (order (text n w t)) h = is_text_lem n w t
text-call (order (withdrawal n)) h = absurd (true≢false (sym h))
text-call (order stop) h = absurd (true≢false (sym h))
text-call (order sign) h = absurd (true≢false (sym h))
text-call (order permission) h = absurd (true≢false (sym h))
text-call (press n) h = absurd (true≢false (sym h))
text-call (take t) h = absurd (true≢false (sym h))

-- two neighbouring texts change places
swap_two : (reads : List ℕ → Option ℕ) {x y : Event} (s : State) → TextCall x → TextCall y → refusal x s ≡ None → refusal y (next reads x s) ≡ None →
    (refusal y s ≡ None) × (refusal x (next reads y s) ≡ None) × (next reads y (next reads x s) ≡ next reads x (next reads y s))
swap_two reads s (is_text_lem n w t) (is_text_lem m v u) h k =
    let x = order (text n w t) in
    let y = order (text m v u) in
    let e = heard reads x s h in
    let k' : refusal y (left n w s) ≡ None = subst (λ (z : State). refusal y z ≡ None) e k in
    let i = turned n m w v s h k' in
    let f = heard reads y s i.0 in (
      i.0,
      subst (λ (z : State). refusal x z ≡ None) (sym f) i.1,
      ap (next reads y) e ∙ heard reads y (left n w s) k' ∙ i.2 ∙ sym (heard reads x (left m v s) i.1) ∙ sym (ap (next reads x) f),
    )

-- each is a text that is accepted in its turn
abbrev pub TextsHeard : (List ℕ → Option ℕ) → List Event → State → Type 0
TextsHeard reads [] s = Unit {0}
TextsHeard reads (e ∷ es) s = TextCall e × (refusal e s ≡ None) × TextsHeard reads es (next reads e s)

-- in another order they are accepted too, and leave the same
pub shuffled : (reads : List ℕ → Option ℕ) {es fs : List Event} (s : State) → Shuffle es fs → TextsHeard reads es s → TextsHeard reads fs s × (after reads es s ≡ after reads fs s)
shuffled reads s none h = (tt, refl)
shuffled reads s (keep {x} p) h = let i = shuffled reads (next reads x s) p h.2 in ((h.0, h.1, i.0), i.1)
shuffled reads s (swap {x} {y} {xs}) h =
    let t = swap_two reads s h.0 h.2.0 h.1 h.2.1 in
    ((h.2.0, t.0, (h.0, t.1, subst (TextsHeard reads xs) t.2 h.2.2)), ap (last_by (next reads) xs) t.2)
shuffled reads s (both p q) h =
    let i = shuffled reads s p h in
    let j = shuffled reads s q i.0 in
    (j.0, i.1 ∙ j.1)

-- a text is no cycle
no_cycle : {e : Event} → TextCall e → is_cycle e ≡ false
no_cycle (is_text_lem n w t) = refl

-- and they leave the same on every end
pub texts-unread : (r₁ r₂ : List ℕ → Option ℕ) (es : List Event) (s : State) → TextsHeard r₁ es s → after r₁ es s ≡ after r₂ es s
texts-unread r₁ r₂ [] s h = refl
texts-unread r₁ r₂ (e ∷ es) s h = texts-unread r₁ r₂ es (next r₁ e s) h.2 ∙ ap (last_by (next r₂) es) (unread r₁ r₂ e s (no_cycle h.0)).0
