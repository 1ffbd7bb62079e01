-- Every run goes by the book: it agrees with the unit after each call, and each call is fair.
use Rattle.std.proofs.Common.{◌≡◌, ℕ, ◌+◌, true, List, [], ◌∷◌, length, Some, None, filter, Option, sym, refl, ap, ◌∙◌, subst, arith}
use mathlib.Core.Path.{subst₃}
use Rattle.telegram.specs.declared.modes.Mode.{Mode}
use Rattle.cab_unit.specs.Events.{Event}
use Rattle.cab_unit.specs.Facts.{Apart, Facts}
use Rattle.cab_unit.specs.Line.{settled}
use Rattle.cab_unit.specs.Moves.{Change}
use Rattle.cab_unit.specs.Refusing.{refusal}
use Rattle.driver_desk.specs.Requests.{before, is_for, rest_of}
use Rattle.driver_desk.specs.Sorting.{some, tally}
use Rattle.cab_unit.specs.State.{State}
use Rattle.cab_unit.specs.Steps.{changed, next, reply, state_at, answer_at, switched_on}
use Rattle.driver_desk.specs.declared.level.Level.{Level}
use Rattle.driver_desk.specs.declared.refusal.Refusal.{Refusal}
use Rattle.driver_desk.specs.declared.request.Class.{Class}
use Rattle.driver_desk.specs.declared.request.Request.{Request}
use Rattle.bench.specs.Book.{Book, new_book, closed, opening, once, entry, booked, book_of, identical, is_open, named_open, FairAt, Fair}
use Rattle.bench.specs.Laws.{BookLaw}
use Rattle.bench.specs.Runs.{after, answers}
use Rattle.cab_unit.proofs.Facts.{facts_on, facts_step}
use Rattle.bench.proofs.Apartness.{identical_self, tally-apart-once, closed-first}
use Rattle.bench.proofs.Booking.{Ends, taking, Good, good, named_open_lem}
use Rattle.cab_unit.proofs.Sorted.{tally-put}
use Rattle.bench.proofs.Reached.{facts_after}
use Rattle.bench.proofs.Lists.{tally-both, length_kept}

-- the book has the unit's mode, level and waiting requests, and its counts balance
abbrev pub Agrees : Book → State → Type 0
Agrees b s =
    (b.mode ≡ s.desk.mode) × (b.level ≡ s.desk.level) × (b.opened ≡ s.waiting)
    × ((c : Class) (n : ℕ) → b.raisings c n ≡ b.acknowledgements c n + b.withdrawals c n + tally (is_for c n) s.waiting)

-- what is ended was open
ended_open : (o : Option Request) (l : List Request) → Ends o l → is_open o l ≡ true
ended_open None l h = refl
ended_open (Some r) l h = let e = identical_self r in ap (some (identical r)) h ∙ simp e

-- closing takes out one
tally-closed : (c : Class) (n : ℕ) (o : Option Request) (l : List Request) → Apart l → Ends o l → once o c n + tally (is_for c n) (closed o l) ≡ tally (is_for c n) l
tally-closed c n None l a h = omega arith
tally-closed c n (Some r) l a h =
    let v : closed (Some r) l ≡ rest_of l = ap (closed (Some r)) h ∙ closed-first r (rest_of l) (subst Apart h a) in
    omega (arith, ap (tally (is_for c n)) v, ap (tally (is_for c n)) h)

-- opening puts in one
tally-opening : (c : Class) (n : ℕ) (o : Option Request) (l : List Request) → tally (is_for c n) (opening o l) ≡ once o c n + tally (is_for c n) l
tally-opening c n None l = omega arith
tally-opening c n (Some r) l = tally-put before (is_for c n) r l

-- a good change neither makes nor loses a request
balanced : (e : Event) (s : State) (h : Change) (c : Class) (n : ℕ) → Apart s.waiting → Good e s h →
    once h.raising c n + tally (is_for c n) s.waiting
    ≡ once h.ended c n + tally (is_for c n) (filter (taking e s.desk h.state.desk) (closed h.ended s.waiting)) + tally (is_for c n) h.state.waiting
balanced e s h c n a g =
    let l = closed h.ended s.waiting in
    let p = is_for c n in
    omega (
      arith,
      tally-closed c n h.ended s.waiting a g.ends,
      tally-both p (taking e s.desk h.state.desk) l,
      tally-opening c n h.raising g.rest,
      ap (tally p) g.shape,
      ap (tally p) g.parted.stays,
    )

-- an accepted call: the book agrees after it where it did before, and the call is fair
entry-agrees : (e : Event) (s : State) (h : Change) (b : Book) → Apart s.waiting → Good e s h → named_open e s.waiting ≡ true → Agrees b s →
    Agrees (entry e (answer_at None s h) b) (state_at None s h) × FairAt None e (answer_at None s h) b
unfolding settled
entry-agrees e s h b a g v k =
    let r = answer_at None s h in
    let at : Mode → Level → List Request → Book = λ m l w.
    record { mode = m; level = l; opened = w; raisings = b.raisings; acknowledgements = b.acknowledgements; withdrawals = b.withdrawals } in
    let P : Mode → Level → List Request → Type 0 = λ m l w. Agrees (entry e r (at m l w)) (state_at None s h) × FairAt None e r (at m l w) in
    let gone : h.withdrawn ≡ length (filter (taking e s.desk h.state.desk) (closed h.ended s.waiting)) = g.parted.gone ∙ sym (length_kept _ _) in
    subst₃ P (sym k.0) (sym k.1) (sym k.2) (
      (refl, refl, sym (g.shape ∙ ap (opening h.raising) g.parted.stays), λ c n. omega (arith, balanced e s h c n a g, k.3 c n)),
      (ended_open h.ended s.waiting g.ends, v, gone),
    )

-- one call, by its outcome: a refused call leaves both, and answers none, none and 0
outcome_agrees : (reads : List ℕ → Option ℕ) (e : Event) (s : State) (b : Book) → Apart s.waiting → Agrees b s → (o : Option Refusal) → refusal e s ≡ o →
    let a = answer_at o s (changed reads e s) in Agrees (booked e a b) (state_at o s (changed reads e s)) × FairAt a.outcome e a b
outcome_agrees reads e s b a k None h = entry-agrees e s (changed reads e s) b a (good reads e s a h) (named_open_lem e s h) k
outcome_agrees reads e s b a k (Some r) h = (k, (refl, refl, refl))

-- a run from where the book agrees
run_agrees : (reads : List ℕ → Option ℕ) (es : List Event) (s : State) (b : Book) → Facts s → Agrees b s →
    Agrees (book_of es (answers reads es s) b) (after reads es s) × Fair es (answers reads es s) b
run_agrees reads [] s b f k = (k, tt)
run_agrees reads (e ∷ es) s b f k =
    let step = outcome_agrees reads e s b f.6 k (refusal e s) refl in
    let rest = run_agrees reads es (next reads e s) (booked e (reply reads e s) b) (facts_step reads e s f) step.0 in
    (rest.0, (step.1, rest.1))

-- a unit just switched on agrees with the new book
new_agrees : (speed : Option ℕ) → Agrees new_book (switched_on speed)
unfolding settled
new_agrees speed = (refl, refl, refl, λ c n. refl)

-- every list of calls on an unused unit goes by the book
pub book_law : BookLaw
book_law reads speed es =
    let s = switched_on speed in
    let run = run_agrees reads es s new_book (facts_on speed) (new_agrees speed) in
    let apart : Apart (after reads es s).waiting = (facts_after reads es s (facts_on speed)).6 in
    ((run.0.2, (λ c n. tally-apart-once c n (after reads es s).waiting apart), run.0.3), run.1)
