-- Lines by their number: lists in which no number is there twice.
use Rattle.std.proofs.Common.{◌≡◌, ◌≢◌, ◌==◌, ℕ, zero, suc, ◌<◌, ◌≤◌, Bool, true, false, not, cond, eqb, ltb, Some, None, Ok, Err, Result, position, List, [], ◌∷◌, length, get_or, sym, refl, ap, ◌∙◌, subst, ⊎_elim, arith}
use Rattle.std.specs.List.{All, remove, position_or_len}
use Rattle.std.proofs.lemmas.List.Elements.{All-nil, All-cons, All-weaker, All-from_get_or, filter_passes}
use Rattle.std.proofs.lemmas.List.Folds.{list_any_at, list_any_none}
use Rattle.std.proofs.lemmas.List.Kept.{AllPairs-cons}
use Rattle.std.proofs.lemmas.List.Quantifiers.{all_pairs_remove, position-Some}
use Rattle.std.proofs.lemmas.List.Sums.{fails_before_first}
use Rattle.std.proofs.lemmas.Option.{none-some}
use Rattle.std.proofs.lemmas.Bool.{or_parts, not-true, not_from_false, eqb-true, eqb-false, eq-eqb, ne_eqb, lt-ltb, cond-true, cond-false, cases_lt}
use Rattle.ordering.specs.declared.shelf.Shelf.{Shelf}
use Rattle.ordering.specs.declared.shelf.ShelfRefusal.{ShelfRefusal}
use Rattle.ordering.specs.declared.shelf.ShelfRefusal.TheVariants.{NoFreePlace, NoSuchPosition}
use Rattle.ordering.specs.Shelf.{items, PutFront, TakenOut}
use Rattle.window.specs.declared.line.Line.{Line}
use Rattle.window.specs.Lines.{has, removed, NumbersDiffer}

-- Where a number is not there, each line has another.
others : (n : ℕ) (xs : List Line) → has n xs ≡ false → All (λ line. n ≢ line.number) xs
others n [] h = All-nil (λ line. n ≢ line.number)
others n (x ∷ xs) h =
    let p = or_parts (eqb x.number n) (has n xs) h in
    All-cons (λ line. n ≢ line.number) x xs (λ e. eqb-false x.number n p.0 (sym e)) (others n xs p.1)

-- The number of the front line is not behind it.
front_alone : (x : Line) (xs : List Line) → NumbersDiffer (x ∷ xs) → has x.number xs ≡ false
front_alone x xs differ =
    list_any_none (λ line. eqb line.number x.number) xs
    (All-from_get_or (λ line. eqb line.number x.number ≡ false) xs x (λ i l. ne_eqb _ _ (λ e. differ 0 (suc i) x (omega arith) (omega arith) (sym e))))

-- A place that is not found is past the end.
past : (a b : ℕ) → cond (ltb a b) (Some a) None ≡ None → b ≤ a
past a b h = ⊎_elim (λ below. absurd (none-some a (sym h ∙ cond-true (ltb a b) (Some a) None (lt-ltb a b below)))) (λ upto. upto) (cases_lt a b)

-- Where no place is found, the number is not there.
pub not_there : (n : ℕ) (xs : List Line) → position (λ line. line.number == n) xs ≡ None → has n xs ≡ false
not_there n [] h = refl
not_there n (x ∷ xs) h =
    let test : Line → Bool = λ line. eqb line.number n in
    let none : length (x ∷ xs) ≤ position_or_len test (x ∷ xs) = past (position_or_len test (x ∷ xs)) (length (x ∷ xs)) h in
    list_any_none test (x ∷ xs) (All-from_get_or (λ line. test line ≡ false) (x ∷ xs) x (λ i l. fails_before_first test (x ∷ xs) i x (omega arith)))

-- Removing a number that is not there leaves the lines.
pub removed-none : (n : ℕ) (xs : List Line) → has n xs ≡ false → removed n xs ≡ xs
removed-none n [] h = refl
removed-none n (x ∷ xs) h =
    let p = or_parts (eqb x.number n) (has n xs) h in
    cond-true (not (eqb x.number n)) _ _ (not_from_false (eqb x.number n) p.0) ∙ ap (λ ys. x ∷ ys) (removed-none n xs p.1)

-- Removing the front line's number leaves the lines behind it.
pub removed_front : (x : Line) (xs : List Line) → has x.number xs ≡ false → removed x.number (x ∷ xs) ≡ xs
removed_front x xs h = cond-false (not (eqb x.number x.number)) _ _ (ap (λ b. not b) (eq-eqb x.number x.number refl)) ∙ removed-none x.number xs h

-- Removing the number of the line at a place takes out that line.
removed-at : (n : ℕ) (xs : List Line) (i : ℕ) (d : Line) → NumbersDiffer xs → i < length xs → eqb (get_or xs i d).number n ≡ true → remove xs i ≡ removed n xs
removed-at n [] i d differ within e = absurd (omega arith)
removed-at n (x ∷ xs) zero d differ within e = sym (subst (λ m. removed m (x ∷ xs) ≡ xs) (eqb-true x.number n e) (removed_front x xs (front_alone x xs differ)))
removed-at n (x ∷ xs) (suc i) d differ within e =
    let at = eqb-true (get_or xs i d).number n e in
    let other : eqb x.number n ≡ false = ne_eqb x.number n (λ same. differ 0 (suc i) d (omega arith) (omega arith) (same ∙ sym at)) in
    let behind : NumbersDiffer xs = λ j k c h l. differ (suc j) (suc k) c (omega arith) (omega arith) in
    ap (λ ys. x ∷ ys) (removed-at n xs i d behind (omega arith) e) ∙ sym (cond-true (not (eqb x.number n)) _ _ (not_from_false (eqb x.number n) other))

-- A removed number is gone.
pub removed-gone : (n : ℕ) (xs : List Line) → has n (removed n xs) ≡ false
removed-gone n xs =
    list_any_none (λ line. eqb line.number n) (removed n xs)
    (All-weaker (λ line. not (eqb line.number n) ≡ true) (λ line. eqb line.number n ≡ false) (λ line h. not-true (eqb line.number n) h) (removed n xs) (filter_passes (λ line. not (eqb line.number n)) xs))

-- Numbers that differ still do after the shelf put a line with a new one in front, or refused it.
pub differ_put : (m n : Shelf Line) (x : Line) (r : Result (Unit {0}) ShelfRefusal) → PutFront m n x r → has x.number (items m) ≡ false → NumbersDiffer (items m) → NumbersDiffer (items n)
differ_put m n x (Ok u) h new differ = subst (λ xs. NumbersDiffer xs) (sym h.1) (AllPairs-cons (λ a b. a.number ≢ b.number) x (items m) (others x.number (items m) new) differ)
differ_put m n x (Err NoFreePlace) h new differ = subst (λ s. NumbersDiffer (items s)) (sym h.1) differ
differ_put m n x (Err NoSuchPosition) h new differ = absurd h

-- And after it took a line out, or refused.
pub differ_taken : (m n : Shelf Line) (p : ℕ) (r : Result Line ShelfRefusal) → TakenOut m n p r → NumbersDiffer (items m) → NumbersDiffer (items n)
differ_taken m n p (Ok x) h differ = subst (λ xs. NumbersDiffer xs) (sym h.2) (all_pairs_remove (λ a b. a.number ≢ b.number) (items m) p h.0 differ)
differ_taken m n p (Err NoSuchPosition) h differ = subst (λ s. NumbersDiffer (items s)) (sym h.1) differ
differ_taken m n p (Err NoFreePlace) h differ = absurd h

-- The line taken out at the place of a number leaves the lines without it.
pub taken : (m n : Shelf Line) (number p : ℕ) (x : Line) → position (λ line. line.number == number) (items m) ≡ Some p → TakenOut m n p (Ok x) → NumbersDiffer (items m) → (has number (items m) ≡ true) × (items n ≡ removed number (items m))
taken m n number p x found h differ =
    let test : Line → Bool = λ line. eqb line.number number in
    let at = position-Some test (items m) p x found in
    (list_any_at test (items m) p x at.0 at.1, h.2 ∙ removed-at number (items m) p x differ at.0 at.1)
