-- Room for what waits, and what the places mean after a change.
use Rattle.std.proofs.Common.{◌≡◌, ℕ, ◌+◌, ◌-◌, ◌<◌, Bool, false, cond, eqb, List, [], ◌∷◌, ◌++◌, length, get_or, Some, None, Option, not, filter, sym, refl, ap, ◌∙◌, inl, inr, arith}
use Rattle.std.specs.List.{AllByRecursion, swap_remove}
use Rattle.std.proofs.ByRecursion.{All-weaker, All-from_get_or}
use Rattle.std.specs.Option.{MatchOption, IsSomeAnd}
use Rattle.std.proofs.lemmas.List.Filters.{length-filter_both}
use Rattle.std.proofs.lemmas.Bool.{cases_Bool}
use Rattle.std.proofs.lemmas.Bool.Decides.{nat_tests}
use Rattle.ordering.specs.Order.{NoneBefore}
use Rattle.cab_unit.specs.Facts.{Few, same_request}
use Rattle.driver_desk.specs.Numbers.{class_number}
use Rattle.cab_unit.specs.Places.{sorted, limit, Single}
use Rattle.driver_desk.specs.Requests.{before, of_class, is_for, waits, number_of, first_of, rest_of}
use Rattle.driver_desk.specs.Sorting.{put, some, tally}
use Rattle.driver_desk.specs.declared.request.Class.{Class}
use Rattle.driver_desk.specs.declared.request.Class.TheVariants as class
use Rattle.driver_desk.specs.declared.request.Request.{Request}
use Rattle.cab_unit.proofs.Before.{before-order}
use Rattle.cab_unit.proofs.Places.{Told, length-sorted, some-sorted, tally-sorted, filtered-sorted, sorted_push, kept_sorted, first_out}
use Rattle.cab_unit.proofs.Queue.{some_room, few_fewer, none_for, same_sym}
use Rattle.cab_unit.proofs.Sorted.{tally-put, tally-none, tally_kept, none-some}
use Rattle.cab_unit.proofs.Turns.{told-apart, single_told}

one_class : (k : Class) → cond (eqb (class_number k) 0) 1 0 + cond (eqb (class_number k) 1) 1 0 + cond (eqb (class_number k) 2) 1 0 + cond (eqb (class_number k) 3) 1 0 + cond (eqb (class_number k) 4) 1 0 ≡ 1
one_class class.Trip = refl
one_class class.Mode = refl
one_class class.Level = refl
one_class class.Hold = refl
one_class class.Text = refl

-- each is of one class
by_class : (l : List Request) → length l ≡ number_of class.Trip l + number_of class.Mode l + number_of class.Level l + number_of class.Hold l + number_of class.Text l
by_class [] = refl
by_class (r ∷ rs) = omega (arith, one_class r.class, by_class rs)

below_limit : (k : Class) (l : List Request) → Few l → number_of k l < limit k → length l < 16
below_limit class.Trip l h k = omega (arith, by_class l)
below_limit class.Mode l h k = omega (arith, by_class l)
below_limit class.Level l h k = omega (arith, by_class l)
below_limit class.Hold l h k = omega (arith, by_class l)
below_limit class.Text l h k = omega (arith, by_class l)

-- below the limit of a class there is a free place
pub place-left : (k : Class) (xs : List Request) → Few (sorted before xs) → number_of k (sorted before xs) < limit k → length xs < 16
place-left k xs few less = omega (arith, below_limit k (sorted before xs) few less, length-sorted before xs)

-- where none of a class waits there is room for one
pub alone_room : (c : Class) (l : List Request) → number_of c l ≡ 0 → number_of c l < limit c
alone_room c l h = omega (arith, some_room c)

none_passes : (p : Request → Bool) (l : List Request) → AllByRecursion (λ x. p x ≡ false) l → some p l ≡ false
none_passes p [] h = refl
none_passes p (x ∷ xs) h = let e = h.0 in simp e (none_passes p xs h.1)

-- and none of any number waits
pub alone_fresh : (c : Class) (n : ℕ) (l : List Request) → number_of c l ≡ 0 → waits c n l ≡ false
alone_fresh c n l h = none_passes (is_for c n) l (none_for c n l h)

-- none that waits is for the same as a fresh one
fresh-apart : (r : Request) (l : List Request) → waits r.class r.number l ≡ false → AllByRecursion (λ x. same_request r x ≡ false) l
fresh-apart r l h = none-some (same_request r) l h

-- a fresh one behind the others
pub raised-behind : (xs : List Request) (r : Request) → waits r.class r.number (sorted before xs) ≡ false → sorted before (xs ++ r ∷ []) ≡ put before r (sorted before xs)
raised-behind xs r fresh =
    let apart = fresh-apart r xs (sym (some-sorted before (same_request r) xs) ∙ fresh) in
    let told = All-weaker (λ x. same_request r x ≡ false) (λ x. Told before x r) (λ x e. told-apart x r (same_sym r x e)) xs apart in
    sorted_push before-order xs r told

-- a fresh one more leaves one at most
pub single_put : (r : Request) (l : List Request) → Single l → waits r.class r.number l ≡ false → Single (put before r l)
single_put r l h fresh c n =
    let more = tally-put before (is_for c n) r l in
    elim (cases_Bool (is_for c n r)) [
      | inl e ↦
          let none = tally-none (is_for c n) l (All-weaker (λ x. same_request r x ≡ false) (λ x. is_for c n x ≡ false) (λ x f. grind (arith, nat_tests)) l (fresh-apart r l fresh)) in
          let more' : tally (is_for c n) (put before r l) ≡ 1 + tally (is_for c n) l = simp e at more in
          omega arith
      | inr e ↦
          let more' : tally (is_for c n) (put before r l) ≡ 0 + tally (is_for c n) l = simp e at more in
          omega (arith, h c n)
    ]

pub few_kept : (p : Request → Bool) (l : List Request) → Few l → Few (filter p l)
few_kept p l h = few_fewer (filter p l) l (λ c. tally_kept (of_class c) p l) h

pub single_kept : (p : Request → Bool) (l : List Request) → Single l → Single (filter p l)
single_kept p l h c n = omega (arith, tally_kept (is_for c n) p l, h c n)

pub few_rest : (l : List Request) → Few l → Few (rest_of l)
few_rest [] h = h
few_rest (r ∷ rs) h = few_fewer rs (r ∷ rs) (λ c. omega arith) h

pub single_rest : (l : List Request) → Single l → Single (rest_of l)
single_rest [] h c n = h c n
single_rest (r ∷ rs) h c n = omega (arith, h c n)

-- one at most in no order, too
single_places : (xs : List Request) → Single (sorted before xs) → Single xs
single_places xs h c k = omega (arith, h c k, tally-sorted before (is_for c k) xs)

-- the chosen one and the rest
pub first_chosen : (xs : List Request) (i : ℕ) (d : Request) → Single (sorted before xs) → NoneBefore before xs (Some i) →
    sorted before xs ≡ get_or xs i d ∷ sorted before (swap_remove xs i d)
first_chosen xs i d single f =
    first_out before-order xs i d f.0 (single_told xs (single_places xs single)) (All-from_get_or (λ y. before y (get_or xs i d) ≡ false) xs d (λ k l. f.1 k d l))

-- what is read at the place of the chosen one
pub first_read : (xs : List Request) (o : Option ℕ) (r : Option Request) (P : ℕ → Request → Type 0) → Single (sorted before xs) → NoneBefore before xs o →
    MatchOption o (r ≡ None) (λ i. IsSomeAnd r (P i)) → ((i : ℕ) (x : Request) → i < length xs → P i x → x ≡ get_or xs i x) → r ≡ first_of (sorted before xs)
first_read [] None r P single f h says = h
first_read (x ∷ xs) None r P single f h says = absurd (omega (arith, f))
first_read xs (Some i) None P single f h says = absurd h
first_read xs (Some i) (Some x) P single f h says = ap Some (says i x f.0 h) ∙ sym (ap first_of (first_chosen xs i x single f))

-- what stays of a withdrawal, and how many went
pub withdrawn : (p : Request → Bool) (xs ys : List Request) → ys ≡ filter (λ x. not (p x)) xs →
    (sorted before ys ≡ filter (λ x. not (p x)) (sorted before xs)) × (length xs - length ys ≡ tally p (sorted before xs))
withdrawn p xs ys e =
    let stays = ap (sorted before) e ∙ sym (kept_sorted before-order (λ x. not (p x)) xs) in
    (stays, omega (arith, length-filter_both p (λ x. not (p x)) (λ _. refl) xs, filtered-sorted before p xs, ap length e))
