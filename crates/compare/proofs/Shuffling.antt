-- Lists with the same elements.
use Rattle.std.proofs.Common.{◌≡◌, ℕ, suc, ◌+◌, Bool, cond, List, [], ◌∷◌, length, sym, refl, ap, ◌∙◌, ap₂, arith}
use Rattle.std.proofs.lemmas.List.{nil_from_length}
use Rattle.ordering.specs.Shuffle.{Shuffle, Shuffle.none, Shuffle.keep, Shuffle.swap, Shuffle.both}

-- how many pass a test
abbrev pub tally : {X : Type 0} → (X → Bool) → List X → ℕ
tally p [] = 0
tally p (x ∷ xs) = cond (p x) 1 0 + tally p xs

module _ {X : Type 0} where
  -- a list has its own elements
  pub shuffle_refl : (xs : List X) → Shuffle xs xs
  shuffle_refl [] = none
  shuffle_refl (x ∷ xs) = keep (shuffle_refl xs)

  -- in either direction
  pub shuffle_sym : {xs ys : List X} → Shuffle xs ys → Shuffle ys xs
  shuffle_sym none = none
  shuffle_sym (keep s) = keep (shuffle_sym s)
  shuffle_sym swap = swap
  shuffle_sym (both s t) = both (shuffle_sym t) (shuffle_sym s)

  -- of the same elements as many pass a test
  pub same-tally : (p : X → Bool) {xs ys : List X} → Shuffle xs ys → tally p xs ≡ tally p ys
  same-tally p none = refl
  same-tally p (keep {x} s) = ap (λ n. cond (p x) 1 0 + n) (same-tally p s)
  same-tally p (swap {x} {y} {xs}) = omega arith
  same-tally p (both s t) = same-tally p s ∙ same-tally p t

-- as many elements
pub shuffle_length : {X : Type 0} {xs ys : List X} → Shuffle xs ys → length xs ≡ length ys
shuffle_length none = refl
shuffle_length (keep s) = ap (λ n. suc n) (shuffle_length s)
shuffle_length swap = refl
shuffle_length (both s t) = shuffle_length s ∙ shuffle_length t

-- a list of one element has one order
pub shuffle_single : {X : Type 0} {xs ys : List X} → Shuffle xs ys → (z : X) → xs ≡ z ∷ [] → ys ≡ z ∷ []
shuffle_single none z p = p
shuffle_single (keep {x} {xs} {ys} s) z p =
    let first : x ≡ z = cc in
    let rest : xs ≡ [] = cc in
    ap₂ ◌∷◌ first (nil_from_length ys (sym (shuffle_length s) ∙ ap length rest))
shuffle_single (swap {x} {y} {xs}) z p = let n = ap length p in absurd (omega (arith, n))
shuffle_single (both s t) z p = shuffle_single t z (shuffle_single s z p)
