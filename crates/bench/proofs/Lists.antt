-- What a withdrawal takes out of a list, and how much.
use Rattle.std.proofs.Common.{◌≡◌, ℕ, ◌+◌, ◌≤◌, Bool, true, false, cond, not, ◌||◌, List, [], ◌∷◌, length, filter, sym, refl, ap, ◌∙◌, subst, inl, inr, arith}
use mathlib.Core.Path.{fun_ext}
use Rattle.std.specs.List.{AllByRecursion}
use Rattle.std.proofs.lemmas.Bool.{cases_Bool, true≢false}
use Rattle.driver_desk.specs.Sorting.{some, tally}

-- as many are kept as pass
pub length_kept : {X : Type 0} (p : X → Bool) (l : List X) → length (filter p l) ≡ tally p l
length_kept p [] = refl
length_kept p (x ∷ xs) = elim (cases_Bool (p x)) [
  | inl e ↦ simp e (omega (arith, length_kept p xs))
  | inr e ↦ simp e (omega (arith, length_kept p xs))
]

-- what stays and what goes is all there is
pub tally-both : {X : Type 0} (q p : X → Bool) (l : List X) → tally q (filter (λ x. not (p x)) l) + tally q (filter p l) ≡ tally q l
tally-both q p [] = refl
tally-both q p (x ∷ xs) = elim (cases_Bool (p x)) [
  | inl e ↦ simp (e, e) (omega (arith, tally-both q p xs))
  | inr e ↦ simp (e, e) (omega (arith, tally-both q p xs))
]

-- where one passes, at least one is counted
pub tally-some : {X : Type 0} (p : X → Bool) (l : List X) → some p l ≡ true → 1 ≤ tally p l
tally-some p [] h = absurd (true≢false (sym h))
tally-some p (x ∷ xs) h = elim (cases_Bool (p x)) [
  | inl e ↦ simp e (omega arith)
  | inr e ↦ let k : some p xs ≡ true = simp e at h in simp e (omega (arith, tally-some p xs k))
]

-- all that fail the test stay
pub kept_others : {X : Type 0} (p : X → Bool) (l : List X) → AllByRecursion (λ x. p x ≡ false) l → filter (λ x. not (p x)) l ≡ l
kept_others p [] h = refl
kept_others p (x ∷ xs) h = let e = h.0 in simp e (ap (λ t. x ∷ t) (kept_others p xs h.1))

-- of w those that pass p go: k stays, in its order, and n go
pub record Parted {X : Type 0} (p : X → Bool) (w k : List X) (n : ℕ) : Type 0 where
  pub stays : k ≡ filter (λ x. not (p x)) w
  pub gone : n ≡ tally p w

-- a filter parts a list
pub parted_by : {X : Type 0} (p : X → Bool) (w : List X) → Parted p w (filter (λ x. not (p x)) w) (tally p w)
parted_by p w = record { stays = refl; gone = refl }

-- by another test of the same answers
pub parted_like : {X : Type 0} {p q : X → Bool} {w k : List X} {n : ℕ} → ((x : X) → p x ≡ q x) → Parted p w k n → Parted q w k n
parted_like {X} {p} {q} {w} {k} {n} h = subst (λ (t : X → Bool). Parted t w k n) (fun_ext h)

-- a test that none passes
pub parted-none : {X : Type 0} {p : X → Bool} → ((x : X) → p x ≡ false) → (w : List X) → Parted p w w 0
parted-none h [] = record { stays = refl; gone = refl }
parted-none h (x ∷ xs) =
    let e = h x in
    let r = parted-none h xs in
    record { stays = simp e (ap (λ t. x ∷ t) r.stays); gone = simp e (omega (arith, r.gone)) }

-- a test that all pass
pub parted_all : {X : Type 0} {p : X → Bool} → ((x : X) → p x ≡ true) → (w : List X) → Parted p w [] (length w)
parted_all h [] = record { stays = refl; gone = refl }
parted_all h (x ∷ xs) =
    let e = h x in
    let r = parted_all h xs in
    record { stays = simp e r.stays; gone = simp e (omega (arith, r.gone)) }

-- one parting after another is one by either test
parted_twice : {X : Type 0} (p q : X → Bool) (w : List X) →
    Parted (λ x. p x || q x) w (filter (λ x. not (q x)) (filter (λ x. not (p x)) w)) (tally p w + tally q (filter (λ x. not (p x)) w))
parted_twice p q [] = record { stays = refl; gone = refl }
parted_twice {X} p q (x ∷ xs) =
    let r = parted_twice p q xs in
    elim (cases_Bool (p x)) [
      | inl e ↦ record { stays = simp e r.stays; gone = simp e (omega (arith, r.gone)) }
      | inr e ↦ record { stays = simp e (ap (λ (t : List X). cond (not (q x)) (x ∷ t) t) r.stays); gone = simp e (omega (arith, r.gone)) }
    ]

-- the same, of any two partings that follow each other
pub parted-then : {X : Type 0} {p q : X → Bool} {w k k' : List X} {n n' : ℕ} → Parted p w k n → Parted q k k' n' → Parted (λ x. p x || q x) w k' (n + n')
parted-then {X} {p} {q} {w} {k} {k'} {n} {n'} a b =
    let r = parted_twice p q w in
    record {
      stays = b.stays ∙ ap (filter (λ x. not (q x))) a.stays ∙ r.stays;
      gone = omega (arith, a.gone, b.gone, ap (tally q) a.stays, r.gone);
    }

-- a test that says no wherever another says yes counts the same after the other's parting
pub tally-apart : {X : Type 0} (p q : X → Bool) → ((x : X) → p x ≡ true → q x ≡ false) → (w : List X) → tally q (filter (λ x. not (p x)) w) ≡ tally q w
tally-apart p q h [] = refl
tally-apart p q h (x ∷ xs) = elim (cases_Bool (p x)) [
  | inl e ↦ let f = h x e in simp (e, f) (omega (arith, tally-apart p q h xs))
  | inr e ↦ simp e (omega (arith, tally-apart p q h xs))
]

-- a second parting by such a test, counted in the whole list
pub parted_also : {X : Type 0} {p : X → Bool} {w k : List X} {n : ℕ} (q : X → Bool) → ((x : X) → p x ≡ true → q x ≡ false) → Parted p w k n →
    Parted (λ x. p x || q x) w (filter (λ x. not (q x)) k) (n + tally q w)
parted_also {X} {p} {w} {k} {n} q h a =
    let r = parted-then a (parted_by q k) in
    record { stays = r.stays; gone = omega (arith, r.gone, ap (tally q) a.stays, tally-apart p q h w) }
