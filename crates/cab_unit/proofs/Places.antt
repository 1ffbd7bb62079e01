-- Places in no order, and the list in order that they mean.
use Rattle.std.proofs.Common.{◌≡◌, ℕ, zero, suc, ◌+◌, ◌-◌, ◌<◌, Bool, true, false, ◌||◌, List, [], ◌∷◌, ◌++◌, length, get_or, take, take_all, set, filter, sym, refl, ap, ◌∙◌, subst, ap₂, inl, inr, arith}
use Rattle.std.specs.List.{AllByRecursion, swap_remove, list_any}
use Rattle.std.proofs.lemmas.List.{take_more, take-set, get_or-take, length-take}
use Rattle.std.proofs.ByRecursion.{All-get_or}
use Rattle.std.proofs.lemmas.Bool.{cases_Bool, cases_lt}
use Rattle.cab_unit.specs.Facts.{Rising}
use Rattle.cab_unit.specs.Places.{sorted}
use Rattle.driver_desk.specs.Sorting.{put, some, tally}
use Rattle.cab_unit.proofs.Sorted.{Order, all_put, some-put, tally-put, length-put, put_front, rising_put, put_comm, kept_put}

-- one of the two is before the other
abbrev pub Told : {X : Type 0} → (X → X → Bool) → X → X → Type 0
Told lt x y = (lt x y || lt y x) ≡ true

-- of any two, one is before the other
abbrev pub AllTold : {X : Type 0} → (X → X → Bool) → List X → Type 0
AllTold lt [] = Unit {0}
AllTold lt (x ∷ xs) = AllByRecursion (Told lt x) xs × AllTold lt xs

take_set_over : {X : Type 0} (xs : List X) (m i : ℕ) (v : X) → take m (set xs i v) ≡ set (take m xs) i v
take_set_over [] zero i v = refl
take_set_over [] (suc m) i v = refl
take_set_over (x ∷ xs) zero zero v = refl
take_set_over (x ∷ xs) zero (suc i) v = refl
take_set_over (x ∷ xs) (suc m) zero v = refl
take_set_over (x ∷ xs) (suc m) (suc i) v = ap (λ t. x ∷ t) (take_set_over xs m i v)

module _ {X : Type 0} (lt : X → X → Bool) where
  all_last : (P : X → Type 0) (xs : List X) (z : X) → AllByRecursion P (xs ++ z ∷ []) → AllByRecursion P xs × P z
  all_last P [] z h = (tt, h.0)
  all_last P (x ∷ xs) z h = let k = all_last P xs z h.1 in ((h.0, k.0), k.1)

  -- what is told in a list with a last one
  told_last : (xs : List X) (z : X) → AllTold lt (xs ++ z ∷ []) → AllTold lt xs × AllByRecursion (λ x. Told lt x z) xs
  told_last [] z h = (tt, tt)
  told_last (x ∷ xs) z h =
      let a = all_last (Told lt x) xs z h.0 in
      let k = told_last xs z h.1 in
      ((a.0, k.0), (a.1, k.1))

  pub all_unput : (P : X → Type 0) (a : X) (l : List X) → AllByRecursion P (put lt a l) → AllByRecursion P l
  all_unput P a [] h = tt
  all_unput P a (b ∷ bs) h = elim (cases_Bool (lt b a)) [
    | inl e ↦ let k = simp e at h in (k.0, all_unput P a bs k.1)
    | inr e ↦ let k = simp e at h in k.1
  ]

  pub all_sorted : (P : X → Type 0) (l : List X) → AllByRecursion P l → AllByRecursion P (sorted lt l)
  all_sorted P [] k = tt
  all_sorted P (x ∷ xs) k = all_put lt P x (sorted lt xs) k.0 (all_sorted P xs k.1)

  pub length-sorted : (l : List X) → length (sorted lt l) ≡ length l
  length-sorted [] = refl
  length-sorted (x ∷ xs) = length-put lt x (sorted lt xs) ∙ ap suc (length-sorted xs)

  pub some-sorted : (p : X → Bool) (l : List X) → some p (sorted lt l) ≡ some p l
  some-sorted p [] = refl
  some-sorted p (x ∷ xs) = some-put lt p x (sorted lt xs) ∙ ap (λ t. p x || t) (some-sorted p xs)

  pub tally-sorted : (p : X → Bool) (l : List X) → tally p (sorted lt l) ≡ tally p l
  tally-sorted p [] = refl
  tally-sorted p (x ∷ xs) = omega (arith, tally-put lt p x (sorted lt xs), tally-sorted p xs)

  -- in std's words
  pub any_sorted : (p : X → Bool) (l : List X) → some p (sorted lt l) ≡ list_any p l
  any_sorted p [] = refl
  any_sorted p (x ∷ xs) = some-put lt p x (sorted lt xs) ∙ ap (λ t. p x || t) (any_sorted p xs)

  pub filtered-sorted : (p : X → Bool) (l : List X) → tally p (sorted lt l) ≡ length (filter p l)
  filtered-sorted p [] = refl
  filtered-sorted p (x ∷ xs) =
      let put' = tally-put lt p x (sorted lt xs) in
      elim (cases_Bool (p x)) [
        | inl e ↦ let k : tally p (sorted lt (x ∷ xs)) ≡ 1 + tally p (sorted lt xs) = simp e at put' in simp e (omega (arith, k, filtered-sorted p xs))
        | inr e ↦ let k : tally p (sorted lt (x ∷ xs)) ≡ 0 + tally p (sorted lt xs) = simp e at put' in simp e (omega (arith, k, filtered-sorted p xs))
      ]

module _ {X : Type 0} {lt : X → X → Bool} (o : Order lt) where
  pub rising_sorted : (l : List X) → Rising lt (sorted lt l)
  rising_sorted [] = tt
  rising_sorted (x ∷ xs) = rising_put o x (sorted lt xs) (rising_sorted xs)

  -- a filter before or after sorting
  pub kept_sorted : (p : X → Bool) (l : List X) → filter p (sorted lt l) ≡ sorted lt (filter p l)
  kept_sorted p [] = refl
  kept_sorted p (x ∷ xs) = kept_put o p x (sorted lt xs) (rising_sorted xs) ∙ elim (cases_Bool (p x)) [
    | inl e ↦ simp e (ap (put lt x) (kept_sorted p xs))
    | inr e ↦ simp e (kept_sorted p xs)
  ]

  -- where all are told from it, the last might as well be first
  pub sorted_push : (xs : List X) (y : X) → AllByRecursion (λ x. Told lt x y) xs → sorted lt (xs ++ y ∷ []) ≡ put lt y (sorted lt xs)
  sorted_push [] y h = refl
  sorted_push (x ∷ xs) y h = ap (put lt x) (sorted_push xs y h.1) ∙ put_comm o x y h.0 (sorted lt xs)

  -- one written over another
  sorted-set : (xs : List X) (i : ℕ) (z d : X) → i < length xs → AllTold lt xs → AllByRecursion (λ x. Told lt x z) xs →
      put lt (get_or xs i d) (sorted lt (set xs i z)) ≡ put lt z (sorted lt xs)
  sorted-set [] i z d h a k = absurd (omega arith)
  sorted-set (x ∷ xs) zero z d h a k = put_comm o x z k.0 (sorted lt xs)
  sorted-set (x ∷ xs) (suc i) z d h a k =
      let in' : i < length xs = omega arith in
      sym (put_comm o x (get_or xs i d) (All-get_or (Told lt x) xs i d in' a.0) (sorted lt (set xs i z)))
      ∙ ap (put lt x) (sorted-set xs i z d in' a.1 k.1) ∙ put_comm o x z k.0 (sorted lt xs)

  -- the one at i put back among the others
  taken_out : (xs : List X) (i : ℕ) (d : X) → i < length xs → AllTold lt xs → sorted lt xs ≡ put lt (get_or xs i d) (sorted lt (swap_remove xs i d))
  taken_out xs i d h a =
      let m = length xs - 1 in
      let z = get_or xs m d in
      let more : xs ≡ take m xs ++ z ∷ [] = sym (take_all (m + 1) xs (omega arith)) ∙ take_more xs m d (omega arith) in
      let told = told_last lt (take m xs) z (subst (AllTold lt) more a) in
      let pushed : sorted lt xs ≡ put lt z (sorted lt (take m xs)) = ap (sorted lt) more ∙ sorted_push (take m xs) z told.1 in
      elim (cases_lt i m) [
        | inl l ↦
            let short : i < length (take m xs) = simp length-take (omega arith) in
            let s = sorted-set (take m xs) i z d short told.0 told.1 in
            pushed ∙ sym s ∙ ap₂ (λ a b. put lt a (sorted lt b)) (get_or-take m xs i d l) (sym (take_set_over xs m i z))
        | inr l ↦
            let e : i ≡ m = omega arith in
            pushed ∙ ap₂ (λ a b. put lt (get_or xs a d) (sorted lt b)) (sym e) (sym (take-set xs m z) ∙ ap (λ k. take m (set xs k z)) (sym e))
      ]

  -- the one at i, which none is before, and the rest
  pub first_out : (xs : List X) (i : ℕ) (d : X) → i < length xs → AllTold lt xs → AllByRecursion (λ y. lt y (get_or xs i d) ≡ false) xs →
      sorted lt xs ≡ get_or xs i d ∷ sorted lt (swap_remove xs i d)
  first_out xs i d h a first =
      let x = get_or xs i d in
      let rest = sorted lt (swap_remove xs i d) in
      let out = taken_out xs i d h a in
      let all : AllByRecursion (λ y. lt y x ≡ false) (put lt x rest) = subst (AllByRecursion (λ y. lt y x ≡ false)) out (all_sorted lt (λ y. lt y x ≡ false) xs first) in
      out ∙ put_front lt x rest (all_unput lt (λ y. lt y x ≡ false) x rest all)
