-- What the laws of a strict order give of the best record so far.
use Rattle.std.proofs.Common.{◌≡◌, ℕ, ◌+◌, ◌<◌, Bool, true, false, cond, List, [], ◌∷◌, length, get_or, drop, Some, None, Option, sym, refl, ap, ◌∙◌, subst, ⊎_elim, arith, below_more}
use Rattle.std.proofs.lemmas.List.Elements.{pair_read}
use Rattle.std.proofs.lemmas.List.{drop_more, drop_all}
use Rattle.std.proofs.lemmas.Bool.{both_ways, cases_Bool, cond-true, cond-false}
use Rattle.ordering.specs.Order.{exactly_one, best_place, chosen, Apart, NoneBefore, Leads}

-- Of exactly one, not two hold at once.
not-both : (b c : Bool) → exactly_one b b c ≡ true → b ≡ false
not-both true c h = sym h
not-both false c h = refl

-- Where the second and the third do not hold, the first does.
first-left : (b c e : Bool) → exactly_one b c e ≡ true → c ≡ false → e ≡ false → b ≡ true
first-left true c e h no-c no-e = refl
first-left false true e h no-c no-e = sym no-c
first-left false false e h no-c no-e = sym no-e ∙ h

-- The record at `b` is the best of the first `i`, and the choice over the whole run goes on from it.
abbrev pub BestOf : {X : Type 0} → (X → X → Bool) → List X → ℕ → ℕ → Type 0
BestOf {X} before xs i b = (b < length xs)
    × ((k : ℕ) (d : X) → k < i → before (get_or xs k d) (get_or xs b d) ≡ false)
    × ((d : X) → chosen before xs ≡ Some (best_place before (get_or xs b d) b i (drop i xs)))

-- The laws of a strict order.
pub record Strict {X : Type 0} (before same : X → X → Bool) : Type 0 where
  pub one : (x y : X) → exactly_one (before x y) (before y x) (same x y) ≡ true
  pub carries : (x y z : X) → before x y ≡ true → before y z ≡ true → before x z ≡ true

module _ {X : Type 0} {before same : X → X → Bool} (o : Strict before same) where
  -- No record is before itself.
  itself : (x : X) → before x x ≡ false
  itself x = not-both (before x x) (same x x) (o.one x x)

  -- The first record is the best of one.
  pub best_of_one : (xs : List X) → 0 < length xs → BestOf before xs 1 0
  best_of_one [] within = absurd (omega arith)
  best_of_one (x ∷ xs) within = (within, (λ k d h. let e : 0 ≡ k = omega arith in subst (λ m. before (get_or (x ∷ xs) m d) x ≡ false) e (itself x)), λ d. refl)

  module _ (xs : List X) (i b : ℕ) (x y : X) (best : BestOf before xs i b) (within : i < length xs) (atx : x ≡ get_or xs i x) (aty : y ≡ get_or xs b y) where
    -- What is known of the two records that meet, at any default.
    meet : (t : Bool) → before x y ≡ t → (d : X) → before (get_or xs i d) (get_or xs b d) ≡ t
    meet t e = pair_read xs (λ u v. before u v ≡ t) i b x y within (omega arith) atx aty e

    -- The choice goes on by the test of the next record.
    goes_on : (d : X) → chosen before xs ≡ Some (cond (before (get_or xs i d) (get_or xs b d)) (best_place before (get_or xs i d) i (i + 1) (drop (i + 1) xs)) (best_place before (get_or xs b d) b (i + 1) (drop (i + 1) xs)))
    goes_on d = best.2 d ∙ ap (λ ys. Some (best_place before (get_or xs b d) b i ys)) (drop_more xs i d within)

    -- A next record that is not before the best leaves it the best.
    pub best_keeps : before x y ≡ false → BestOf before xs (i + 1) b
    best_keeps e = (
      best.0,
      (λ k d h. below_more (λ m. before (get_or xs m d) (get_or xs b d) ≡ false) i (λ m l. best.1 m d l) (meet false e d) k h),
      λ d. goes_on d ∙ ap (λ n. Some n) (cond-false _ _ _ (meet false e d)),
    )

    -- A next record that is before the best is the new best.
    pub best_gives_way : before x y ≡ true → BestOf before xs (i + 1) i
    best_gives_way e = (
      within,
      (λ k d h. below_more (λ m. before (get_or xs m d) (get_or xs i d) ≡ false) i
          (λ m l. ⊎_elim (λ t. absurd (both_ways _ (best.1 m d l) (o.carries _ _ _ t (meet true e d)))) (λ f. f) (cases_Bool (before (get_or xs m d) (get_or xs i d))))
          (itself (get_or xs i d)) k h),
      λ d. goes_on d ∙ ap (λ n. Some n) (cond-true _ _ _ (meet true e d)),
    )

  -- The best of all records is the choice.
  pub best_chosen : (xs : List X) (b : ℕ) → BestOf before xs (length xs) b → Some b ≡ chosen before xs
  best_chosen [] b best = absurd (omega arith)
  best_chosen (x ∷ xs) b best = ap (λ ys. Some (best_place before (get_or (x ∷ xs) b x) b (length (x ∷ xs)) ys)) (sym (drop_all (length (x ∷ xs)) (x ∷ xs) (omega arith))) ∙ sym (best.2 x)

  -- Where no two are the same, a record that none is before is before all others.
  pub leads : (xs : List X) (r : Option ℕ) → NoneBefore before xs r → Apart same xs → Leads before xs r
  leads xs None h apart = h
  leads xs (Some i) h apart = (
    h.0,
    λ k d within other.
        first-left _ _ _ (o.one (get_or xs i d) (get_or xs k d)) (h.1 k d within)
        (⊎_elim (λ t. absurd (other (sym (apart i k d h.0 within t)))) (λ f. f) (cases_Bool (same (get_or xs i d) (get_or xs k d)))),
  )
