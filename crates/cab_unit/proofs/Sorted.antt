-- Laws of lists in order: putting in, filtering, counting.
use Rattle.std.proofs.Common.{◌≡◌, suc, ◌+◌, ◌≤◌, Bool, true, false, cond, ◌||◌, List, [], ◌∷◌, length, filter, sym, refl, ap, ◌∙◌, inl, inr, arith}
use Rattle.std.specs.List.{AllByRecursion}
use Rattle.std.proofs.ByRecursion.{all_kept_by, All-weaker}
use Rattle.std.proofs.lemmas.Bool.{cases_Bool, both_ways, true≢false}
use Rattle.cab_unit.specs.Facts.{Rising}
use Rattle.driver_desk.specs.Sorting.{put, some, tally}

-- a test of two that orders: not both ways, and not before is carried on
pub record Order {X : Type 0} (lt : X → X → Bool) : Type 0 where
  pub one_way : (a b : X) → lt a b ≡ true → lt b a ≡ false
  pub follows : (a b c : X) → lt a b ≡ false → lt b c ≡ false → lt a c ≡ false

-- two facts of each element, and what follows from them
pub all_both : {X : Type 0} (P Q R : X → Type 0) → ((x : X) → P x → Q x → R x) → (l : List X) → AllByRecursion P l → AllByRecursion Q l → AllByRecursion R l
all_both P Q R f [] h k = tt
all_both P Q R f (x ∷ xs) h k = (f x h.0 k.0, all_both P Q R f xs h.1 k.1)

module _ {X : Type 0} (lt : X → X → Bool) where
  -- what holds of the new one and of the others holds of all
  pub all_put : (P : X → Type 0) (a : X) (l : List X) → P a → AllByRecursion P l → AllByRecursion P (put lt a l)
  all_put P a [] h k = (h, tt)
  all_put P a (b ∷ bs) h k = elim (cases_Bool (lt b a)) [
    | inl e ↦ simp e (k.0, all_put P a bs h k.1)
    | inr e ↦ simp e (h, k)
  ]

  or_swap : (a b c : Bool) → (a || (b || c)) ≡ (b || (a || c))
  or_swap true true c = refl
  or_swap true false c = refl
  or_swap false b c = refl

  -- one passes after a putting in
  pub some-put : (p : X → Bool) (a : X) (l : List X) → some p (put lt a l) ≡ (p a || some p l)
  some-put p a [] = refl
  some-put p a (b ∷ bs) = elim (cases_Bool (lt b a)) [
    | inl e ↦ simp e (ap (λ t. p b || t) (some-put p a bs) ∙ or_swap (p b) (p a) (some p bs))
    | inr e ↦ simp e
  ]

  -- how many pass after a putting in
  pub tally-put : (p : X → Bool) (a : X) (l : List X) → tally p (put lt a l) ≡ cond (p a) 1 0 + tally p l
  tally-put p a [] = refl
  tally-put p a (b ∷ bs) = elim (cases_Bool (lt b a)) [
    | inl e ↦ simp e (omega (arith, tally-put p a bs))
    | inr e ↦ simp e
  ]

  -- the list is one longer
  pub length-put : (a : X) (l : List X) → length (put lt a l) ≡ suc (length l)
  length-put a [] = refl
  length-put a (b ∷ bs) = elim (cases_Bool (lt b a)) [
    | inl e ↦ simp e (ap suc (length-put a bs))
    | inr e ↦ simp e
  ]

  -- what nothing is before goes to the front
  pub put_front : (a : X) (l : List X) → AllByRecursion (λ y. lt y a ≡ false) l → put lt a l ≡ a ∷ l
  put_front a [] h = refl
  put_front a (b ∷ bs) h = let e = h.0 in simp e

  -- a filtered list is in order
  pub rising_kept : (p : X → Bool) (l : List X) → Rising lt l → Rising lt (filter p l)
  rising_kept p [] h = tt
  rising_kept p (x ∷ xs) h = elim (cases_Bool (p x)) [
    | inl e ↦ simp e (all_kept_by p (λ y. lt y x ≡ false) xs h.0, rising_kept p xs h.1)
    | inr e ↦ simp e (rising_kept p xs h.1)
  ]

module _ {X : Type 0} {lt : X → X → Bool} (o : Order lt) where
  -- nothing behind what a is not behind is before a
  pub all_behind : (a b : X) (l : List X) → lt b a ≡ false → AllByRecursion (λ y. lt y b ≡ false) l → AllByRecursion (λ y. lt y a ≡ false) l
  all_behind a b l e h = All-weaker (λ y. lt y b ≡ false) (λ y. lt y a ≡ false) (λ y f. o.follows y b a f e) l h

  -- nothing is before itself
  pub not_itself : (a : X) → lt a a ≡ false
  not_itself a = elim (cases_Bool (lt a a)) [ inl e ↦ o.one_way a a e | inr e ↦ e ]

  -- none is before the first
  pub first_least : (a : X) (l : List X) → Rising lt (a ∷ l) → AllByRecursion (λ y. lt y a ≡ false) (a ∷ l)
  first_least a l h = (not_itself a, h.0)

  -- putting in keeps the order
  pub rising_put : (a : X) (l : List X) → Rising lt l → Rising lt (put lt a l)
  rising_put a [] h = (tt, tt)
  rising_put a (b ∷ bs) h = elim (cases_Bool (lt b a)) [
    | inl e ↦ simp e (all_put lt (λ y. lt y b ≡ false) a bs (o.one_way b a e) h.0, rising_put a bs h.1)
    | inr e ↦ simp e ((refl, all_behind a b bs e h.0), h)
  ]

  -- the two orders of a pair
  pair_swap : (a b : X) → (lt a b || lt b a) ≡ true → (l : List X) → cond (lt b a) (b ∷ a ∷ l) (a ∷ b ∷ l) ≡ cond (lt a b) (a ∷ b ∷ l) (b ∷ a ∷ l)
  pair_swap a b d l = elim (cases_Bool (lt b a)) [
    | inl e ↦ let f = o.one_way b a e in simp (e, f)
    | inr e ↦ elim (cases_Bool (lt a b)) [
      | inl f ↦ simp (e, f)
      | inr f ↦ absurd (true≢false (sym (simp (e, f) at d)))
    ]
  ]

  -- what is between two is before the second
  pub between : (a b x : X) → lt x b ≡ true → lt x a ≡ false → lt a b ≡ true
  between a b x e f = elim (cases_Bool (lt a b)) [ inl h ↦ h | inr h ↦ absurd (both_ways (lt x b) (o.follows x a b f h) e) ]

  -- two of which one is before the other may be put in either way round
  pub put_comm : (a b : X) → (lt a b || lt b a) ≡ true → (l : List X) → put lt a (put lt b l) ≡ put lt b (put lt a l)
  put_comm a b d [] = pair_swap a b d []
  put_comm a b d (x ∷ xs) = elim (cases_Bool (lt x b)) [
    | inl e ↦ elim (cases_Bool (lt x a)) [
      | inl f ↦ simp (e, f) (ap (λ t. x ∷ t) (put_comm a b d xs))
      | inr f ↦ let h = between a b x e f in simp (e, f, h)
    ]
    | inr e ↦ elim (cases_Bool (lt x a)) [
      | inl f ↦ let h = between b a x f e in simp (e, f, h)
      | inr f ↦ simp (e, f) (pair_swap a b d (x ∷ xs))
    ]
  ]

  -- a filter and a putting in
  pub kept_put : (p : X → Bool) (a : X) (l : List X) → Rising lt l → filter p (put lt a l) ≡ cond (p a) (put lt a (filter p l)) (filter p l)
  kept_put p a [] h = refl
  kept_put p a (b ∷ bs) h = elim (cases_Bool (lt b a)) [
    | inl e ↦ elim (cases_Bool (p b)) [
      | inl f ↦ elim (cases_Bool (p a)) [
        | inl g ↦ simp (e, f, g) (ap (λ t. b ∷ t) (simp g at (kept_put p a bs h.1)))
        | inr g ↦ simp (e, f, g) (ap (λ t. b ∷ t) (simp g at (kept_put p a bs h.1)))
      ]
      | inr f ↦ simp (e, f) (kept_put p a bs h.1)
    ]
    | inr e ↦
        let rest : AllByRecursion (λ y. lt y a ≡ false) (b ∷ bs) = (e, all_behind a b bs e h.0) in
        let front = put_front lt a (filter p (b ∷ bs)) (all_kept_by p (λ y. lt y a ≡ false) (b ∷ bs) rest) in
        simp e (ap (λ t. cond (p a) t (filter p (b ∷ bs))) (sym front))
  ]

module _ {X : Type 0} (q : X → Bool) where
  -- none passes where the count is 0
  pub none-tally : (l : List X) → tally q l ≡ 0 → AllByRecursion (λ x. q x ≡ false) l
  none-tally [] h = tt
  none-tally (x ∷ xs) h = elim (cases_Bool (q x)) [
    | inl e ↦ let k : 1 + tally q xs ≡ 0 = simp e at h in absurd (omega arith)
    | inr e ↦ let k : 0 + tally q xs ≡ 0 = simp e at h in (e, none-tally xs (omega arith))
  ]

  -- and the other way
  pub tally-none : (l : List X) → AllByRecursion (λ x. q x ≡ false) l → tally q l ≡ 0
  tally-none [] h = refl
  tally-none (x ∷ xs) h = let e = h.0 in simp e (omega (arith, tally-none xs h.1))

  -- none passes where not one does
  pub none-some : (l : List X) → some q l ≡ false → AllByRecursion (λ x. q x ≡ false) l
  none-some [] h = tt
  none-some (x ∷ xs) h = elim (cases_Bool (q x)) [
    | inl e ↦ absurd (true≢false (simp e at h))
    | inr e ↦ (e, none-some xs (simp e at h))
  ]

  -- a filter lowers a count
  pub tally_kept : (p : X → Bool) (l : List X) → tally q (filter p l) ≤ tally q l
  tally_kept p [] = omega arith
  tally_kept p (x ∷ xs) = elim (cases_Bool (p x)) [
    | inl e ↦ simp e (omega (arith, tally_kept p xs))
    | inr e ↦ simp e (omega (arith, tally_kept p xs))
  ]

  -- a filter that all who count pass leaves the count
  pub tally_kept_same : (p : X → Bool) → ((x : X) → q x ≡ true → p x ≡ true) → (l : List X) → tally q (filter p l) ≡ tally q l
  tally_kept_same p h [] = refl
  tally_kept_same p h (x ∷ xs) = elim (cases_Bool (q x)) [
    | inl e ↦ let f = h x e in simp (f, e) (omega (arith, tally_kept_same p h xs))
    | inr e ↦ elim (cases_Bool (p x)) [
      | inl f ↦ simp (f, e) (omega (arith, tally_kept_same p h xs))
      | inr f ↦ simp (f, e) (omega (arith, tally_kept_same p h xs))
    ]
  ]

  -- a filter that none who count pass leaves none
  pub tally_kept_none : (p : X → Bool) → ((x : X) → p x ≡ true → q x ≡ false) → (l : List X) → tally q (filter p l) ≡ 0
  tally_kept_none p h [] = refl
  tally_kept_none p h (x ∷ xs) = elim (cases_Bool (p x)) [
    | inl e ↦ let f = h x e in simp (e, f) (omega (arith, tally_kept_none p h xs))
    | inr e ↦ simp e (tally_kept_none p h xs)
  ]
