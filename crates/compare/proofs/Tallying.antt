-- The tally of two lists, place by place, and what it says where nothing differs.
use Rattle.std.proofs.Common.{◌≡◌, ◌↔◌, ℕ, zero, suc, ◌+◌, ◌<◌, ◌≤◌, Bool, true, false, not, ◌&&◌, List, [], ◌∷◌, ◌++◌, map, length, get_or, take, None, Option, Decides, min, sym, refl, ap, ◌∙◌, subst, subst₂, arith}
use Rattle.std.proofs.lemmas.Bool.{false≢true}
use Rattle.std.proofs.lemmas.List.{take_more, get_or-map, length-map, length-take-le}
use Rattle.std.specs.Borrow.{Bor}
use Rattle.cab_unit.specs.declared.call.Call.{Call}
use Rattle.cab_unit.specs.Events.{said, is_cycle}
use Rattle.messages.specs.Texts.{words}
use Rattle.compare.specs.Compared.{AgreeWhere, Tallied, Tallied.nothing, Tallied.left_out, Tallied.equal, Tallied.differs, none_compared, one_equal, one_differs, tally_with, sampled}
use Rattle.compare.specs.Marks.{is_open, is_inside, kept, shown_kept}
use Rattle.compare.specs.declared.marks.Mark.{Mark}
use Rattle.compare.specs.declared.tally.Tally.{Tally}

-- what was tallied before the place i
pub record SoFar {X : Type 0} (i : ℕ) (ks : List Bool) (xs ys : List X) (t : Tally) : Type 0 where
  pub compared : t.compared ≤ i
  pub differing : t.differing ≤ i
  pub tallied : Tallied (take i ks) (take i xs) (take i ys) t

module _ {X : Type 0} (ks : List Bool) (xs ys : List X) where
  pub none_yet : SoFar 0 ks xs ys none_compared
  none_yet = record { compared = omega arith; differing = omega arith; tallied = nothing }

  -- the pair at the place
  pub one_more : (i : ℕ) (k same : Bool) (t : Tally) → i < length ks → i < length xs → i < length ys → k ≡ get_or ks i false → ((d : X) → Decides same (get_or xs i d ≡ get_or ys i d)) →
      SoFar i ks xs ys t → SoFar (i + 1) ks xs ys (tally_with i k same t)
  one_more i k same t h g l p d s = here k same (some_element xs (omega arith)) d p
    where
      some_element : (us : List X) → 0 < length us → X
      some_element [] e = absurd (omega (arith, e))
      some_element (u ∷ us) e = u

      go : (b : Bool) (z : X) (u : Tally) → b ≡ get_or ks i false → Tallied (take i ks ++ b ∷ []) (take i xs ++ get_or xs i z ∷ []) (take i ys ++ get_or ys i z ∷ []) u → Tallied (take (i + 1) ks) (take (i + 1) xs) (take (i + 1) ys) u
      go b z u q w =
          subst (λ a. Tallied a (take (i + 1) xs) (take (i + 1) ys) u) (ap (λ c. take i ks ++ c ∷ []) q ∙ sym (take_more ks i false h))
          (subst₂ (λ a c. Tallied (take i ks ++ b ∷ []) a c u) (sym (take_more xs i z g)) (sym (take_more ys i z l)) w)

      here : (b e : Bool) (z : X) → ((d : X) → Decides e (get_or xs i d ≡ get_or ys i d)) → b ≡ get_or ks i false → SoFar (i + 1) ks xs ys (tally_with i b e t)
      here false e z d q =
          record { compared = omega (arith, s.compared); differing = omega (arith, s.differing); tallied = go false z t q (left_out (get_or xs i z) (get_or ys i z) s.tallied) }
      here true true z d q =
          record { compared = omega (arith, s.compared); differing = omega (arith, s.differing); tallied = go true z (one_equal t) q (equal (get_or xs i z) (get_or ys i z) ((d z).0 refl) s.tallied) }
      here true false z d q =
          let at = length-take-le i xs (omega arith) in
          let r = differs (get_or xs i z) (get_or ys i z) (λ w. false≢true ((d z).1 w)) s.tallied in
          record {
            compared = omega (arith, s.compared);
            differing = omega (arith, s.differing);
            tallied = go true z (one_differs i t) q (subst (λ n. Tallied (take i ks ++ true ∷ []) (take i xs ++ get_or xs i z ∷ []) (take i ys ++ get_or ys i z ∷ []) (one_differs n t)) at r);
          }

-- the words of messages are equal where the messages are
pub words_at : (ms ns : List (Option (Bor (List ℕ)))) (i : ℕ) (same : Bool) → i < length ms → i < length ns → Decides same (words (get_or ms i None) ≡ words (get_or ns i None)) →
    (d : Option (List ℕ)) → Decides same (get_or (map words ms) i d ≡ get_or (map words ns) i d)
words_at ms ns i same h g e d = subst₂ (λ u v. Decides same (u ≡ v)) (sym (get_or-map words ms i None d h)) (sym (get_or-map words ns i None d g)) e

-- a sample of speed is a place where both have a cycle
pub sampled_at : (ks ls : List Call) (i : ℕ) (k l : Call) → i < length ks → i < length ls → get_or (sampled (map said ks) (map said ls)) i false ≡ (is_cycle (said (get_or ks i k)) && is_cycle (said (get_or ls i l)))
sampled_at [] ls i k l h g = absurd (omega (arith, h))
sampled_at (x ∷ ks) [] i k l h g = absurd (omega (arith, g))
sampled_at (x ∷ ks) (y ∷ ls) zero k l h g = refl
sampled_at (x ∷ ks) (y ∷ ls) (suc i) k l h g = sampled_at ks ls i k l (omega (arith, h)) (omega (arith, g))

-- there are as many as the shorter list has calls
pub length-sampled : (ks ls : List Call) → length (sampled (map said ks) (map said ls)) ≡ min (length ks) (length ls)
length-sampled [] ls = omega arith
length-sampled (x ∷ ks) [] = omega arith
length-sampled (x ∷ ks) (y ∷ ls) = let i = length-sampled ks ls in omega (arith, i)

-- as many places as marks
pub length-kept : (ms : List Mark) → length (kept ms) ≡ length ms
length-kept ms = length-map ms (λ m. not (is_open m))

pub length-shown_kept : (ms : List Mark) → length (shown_kept ms) ≡ length ms
length-shown_kept ms = length-map ms (λ m. not (is_inside m))

-- one place more
where_more : {X : Type 0} (ks : List Bool) (xs ys : List X) (k : Bool) (x y : X) → length ks ≡ length xs → length ks ≡ length ys →
    AgreeWhere (ks ++ k ∷ []) (xs ++ x ∷ []) (ys ++ y ∷ []) ↔ AgreeWhere ks xs ys × (k ≡ true → x ≡ y)
where_more [] [] [] k x y e f = (λ g. (tt, g.0), λ g. (g.1, tt))
where_more [] [] (w ∷ ys) k x y e f = absurd (omega (arith, f))
where_more [] (v ∷ xs) ys k x y e f = absurd (omega (arith, e))
where_more (b ∷ ks) [] ys k x y e f = absurd (omega (arith, e))
where_more (b ∷ ks) (v ∷ xs) [] k x y e f = absurd (omega (arith, f))
where_more (b ∷ ks) (v ∷ xs) (w ∷ ys) k x y e f =
    let i = where_more ks xs ys k x y (omega (arith, e)) (omega (arith, f)) in
    (λ g. let j = i.0 g.1 in ((g.0, j.0), j.1), λ g. (g.0.0, i.1 (g.0.1, g.1)))

length-more : {X : Type 0} (xs : List X) (x : X) → length (xs ++ x ∷ []) ≡ suc (length xs)
length-more [] x = refl
length-more (y ∷ xs) x = ap (λ n. suc n) (length-more xs x)

-- as many marks as pairs
tallied_lengths : {X : Type 0} {ks : List Bool} {xs ys : List X} {t : Tally} → Tallied ks xs ys t → (length ks ≡ length xs) × (length ks ≡ length ys)
tallied_lengths nothing = (refl, refl)
tallied_lengths (left_out x y {ks} {xs} {ys} r) = longer false x y (tallied_lengths r)
  where
    longer : (b : Bool) (u v : _) → (length ks ≡ length xs) × (length ks ≡ length ys) → (length (ks ++ b ∷ []) ≡ length (xs ++ u ∷ [])) × (length (ks ++ b ∷ []) ≡ length (ys ++ v ∷ []))
    longer b u v i = (length-more ks b ∙ ap (λ n. suc n) i.0 ∙ sym (length-more xs u), length-more ks b ∙ ap (λ n. suc n) i.1 ∙ sym (length-more ys v))
tallied_lengths (equal x y {ks} {xs} {ys} p r) =
    let i = tallied_lengths r in
    (length-more ks true ∙ ap (λ n. suc n) i.0 ∙ sym (length-more xs x), length-more ks true ∙ ap (λ n. suc n) i.1 ∙ sym (length-more ys y))
tallied_lengths (differs x y {ks} {xs} {ys} p r) =
    let i = tallied_lengths r in
    (length-more ks true ∙ ap (λ n. suc n) i.0 ∙ sym (length-more xs x), length-more ks true ∙ ap (λ n. suc n) i.1 ∙ sym (length-more ys y))

-- nothing differs exactly where what is kept is equal
pub none_differs : {X : Type 0} {ks : List Bool} {xs ys : List X} {t : Tally} → Tallied ks xs ys t → (t.differing ≡ 0) ↔ AgreeWhere ks xs ys
none_differs nothing = (λ _. tt, λ _. refl)
none_differs (left_out x y {ks} {xs} {ys} r) =
    let l = tallied_lengths r in
    let w = where_more ks xs ys false x y l.0 l.1 in
    let i = none_differs r in
    (λ e. w.1 (i.0 e, λ h. absurd (false≢true h)), λ g. i.1 (w.0 g).0)
none_differs (equal x y {ks} {xs} {ys} p r) =
    let l = tallied_lengths r in
    let w = where_more ks xs ys true x y l.0 l.1 in
    let i = none_differs r in
    (λ e. w.1 (i.0 e, λ _. p), λ g. i.1 (w.0 g).0)
none_differs (differs x y {ks} {xs} {ys} p r) =
    let l = tallied_lengths r in
    let w = where_more ks xs ys true x y l.0 l.1 in
    (λ e. absurd (omega (arith, e)), λ g. absurd (p ((w.0 g).1 refl)))
