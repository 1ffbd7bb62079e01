-- What of a list passes a test, after a raising, a filter or a look through it.
use Rattle.std.proofs.Common.{◌≡◌, Bool, true, false, cond, List, [], ◌∷◌, filter, refl, ap, inl, inr}
use Rattle.std.proofs.lemmas.Bool.{cases_Bool, or_parts}
use Rattle.driver_desk.specs.Sorting.{put, some}

module _ {X : Type 0} where
  -- what does not pass may be put in anywhere
  pub kept_put_other : (lt : X → X → Bool) (p : X → Bool) (a : X) → p a ≡ false → (l : List X) → filter p (put lt a l) ≡ filter p l
  kept_put_other lt p a h [] = simp h
  kept_put_other lt p a h (b ∷ bs) = elim (cases_Bool (lt b a)) [
    | inl e ↦ simp e (ap (λ (u : List X). cond (p b) (b ∷ u) u) (kept_put_other lt p a h bs))
    | inr e ↦ simp (e, h)
  ]

  -- what passes, put where nothing passes, is all that passes
  pub kept_put_alone : (lt : X → X → Bool) (p : X → Bool) (a : X) → p a ≡ true → (l : List X) → filter p l ≡ [] → filter p (put lt a l) ≡ a ∷ []
  kept_put_alone lt p a h [] k = simp h
  kept_put_alone lt p a h (b ∷ bs) k = elim (cases_Bool (p b)) [
    | inl f ↦ let z : b ∷ filter p bs ≡ [] = simp f at k in cc
    | inr f ↦
        let z : filter p bs ≡ [] = simp f at k in
        elim (cases_Bool (lt b a)) [
          | inl e ↦ simp (e, f) (kept_put_alone lt p a h bs z)
          | inr e ↦ simp (e, h, f) (ap (λ (u : List X). a ∷ u) z)
        ]
  ]

  -- a filter that spares what passes
  pub kept_through : (p q : X → Bool) → ((x : X) → p x ≡ true → q x ≡ true) → (l : List X) → filter p (filter q l) ≡ filter p l
  kept_through p q h [] = refl
  kept_through p q h (x ∷ xs) = elim (cases_Bool (q x)) [
    | inl e ↦ simp e (ap (λ (u : List X). cond (p x) (x ∷ u) u) (kept_through p q h xs))
    | inr e ↦ elim (cases_Bool (p x)) [
      | inl f ↦ let g = h x f in cc
      | inr f ↦ simp (e, f) (kept_through p q h xs)
    ]
  ]

  -- a filter that spares nothing that passes
  pub kept_nothing : (p q : X → Bool) → ((x : X) → q x ≡ true → p x ≡ false) → (l : List X) → filter p (filter q l) ≡ []
  kept_nothing p q h [] = refl
  kept_nothing p q h (x ∷ xs) = elim (cases_Bool (q x)) [
    | inl e ↦ let f = h x e in simp (e, f) (kept_nothing p q h xs)
    | inr e ↦ simp e (kept_nothing p q h xs)
  ]

  -- where none is so, none that passes is
  pub none_kept : (p q : X → Bool) (l : List X) → some q l ≡ false → some q (filter p l) ≡ false
  none_kept p q [] h = refl
  none_kept p q (x ∷ xs) h =
      let k = or_parts (q x) (some q xs) h in
      let first = k.0 in
      elim (cases_Bool (p x)) [
        | inl e ↦ simp (e, first) (none_kept p q xs k.1)
        | inr e ↦ simp e (none_kept p q xs k.1)
      ]
