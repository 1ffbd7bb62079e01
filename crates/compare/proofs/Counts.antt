-- As many of each: then the same elements came, in whatever order.
use Rattle.std.proofs.Common.{◌≡◌, ℕ, ◌+◌, ◌<◌, Bool, true, false, cond, List, [], ◌∷◌, ◌++◌, Decides, sym, refl, ap, subst, ◌∙◌, arith}
use Rattle.std.proofs.lemmas.Bool.{true≢false}
use Rattle.ordering.specs.Shuffle.{Shuffle, Shuffle.none, Shuffle.keep, Shuffle.swap, Shuffle.both}
use Rattle.compare.proofs.Shuffling.{tally, shuffle_refl, shuffle_sym, same-tally}

pub tally-parts : {X : Type 0} (p : X → Bool) (xs ys : List X) → tally p (xs ++ ys) ≡ tally p xs + tally p ys
tally-parts p [] ys = omega arith
tally-parts p (x ∷ xs) ys = ap (λ n. cond (p x) 1 0 + n) (tally-parts p xs ys) ∙ omega arith

-- by every test as many
abbrev pub SameCounts : {X : Type 0} → List X → List X → Type 0
SameCounts {X} xs ys = (p : X → Bool) → tally p xs ≡ tally p ys

-- what counts, but not at first, counts later
pub counted_rest : (b : Bool) (n : ℕ) → b ≡ false → 0 < cond b 1 0 + n → 0 < n
counted_rest true n e h = absurd (true≢false e)
counted_rest false n e h = omega (arith, h)

module _ {K : Type 0} (same : K → K → Bool) (decides : (a b : K) → Decides (same a b) (a ≡ b)) where
  abbrev pub Counts : List K → List K → Type 0
  Counts P Q = (k : K) → tally (same k) P ≡ tally (same k) Q

  -- an element that counts stands somewhere, and can be taken out
  taken : (k : K) (Q : List K) → 0 < tally (same k) Q → (R : List K) × Shuffle Q (k ∷ R)
  taken k [] h = absurd (omega (arith, h))
  taken k (q ∷ Q) h = here (same k q) refl (taken k Q)
    where
      here : (b : Bool) → same k q ≡ b → (0 < tally (same k) Q → (R : List K) × Shuffle Q (k ∷ R)) → (R : List K) × Shuffle (q ∷ Q) (k ∷ R)
      here true e i = (Q, subst (λ z. Shuffle (q ∷ Q) (z ∷ Q)) (sym ((decides k q).0 e)) (shuffle_refl (q ∷ Q)))
      here false e i =
          let rest = counted_rest (same k q) (tally (same k) Q) e h in
          let j = i rest in
          (q ∷ j.0, both (keep j.1) swap)

  same_self : (k : K) → same k k ≡ true
  same_self k = (decides k k).1 refl

  -- the first counts once at least
  counted_first : (k : K) (P : List K) → 0 < tally (same k) (k ∷ P)
  counted_first k P = subst (λ b. 0 < cond b 1 0 + tally (same k) P) (sym (same_self k)) (omega arith)

  no_counts : (Q : List K) → Counts [] Q → Q ≡ []
  no_counts [] c = refl
  no_counts (q ∷ Q) c = let e = c q in let f = counted_first q Q in absurd (omega (arith, e, f))

  pub counts_shuffle : (P Q : List K) → Counts P Q → Shuffle P Q
  counts_shuffle [] Q c = subst (λ z. Shuffle [] z) (sym (no_counts Q c)) none
  counts_shuffle (k ∷ P) Q c =
      let t = taken k Q (subst (λ n. 0 < n) (c k) (counted_first k P)) in
      let rest : Counts P t.0 = λ j. let a = c j in let b = same-tally (same j) t.1 in omega (arith, a, b) in
      both (keep (counts_shuffle P t.0 rest)) (shuffle_sym t.1)

  pub counts_shuffles : (P Q : List K) → SameCounts P Q → Shuffle P Q
  counts_shuffles P Q c = counts_shuffle P Q (λ k. c (same k))
