-- One list on two cabs: where the speeds were equal, nothing differs.
use Rattle.std.proofs.Common.{◌≡◌, ℕ, zero, suc, ◌<◌, Bool, true, false, ◌&&◌, ◌==◌, List, [], ◌∷◌, length, take, vec_items, Ok, Err, Result, IfOk, IfErr, Decides, ◌+◌, sym, refl, ap, ◌∙◌, subst, arith}
use Rattle.std.proofs.lemmas.Bool.{ne_eqb, eq-eqb}
use Rattle.bench.specs.Both.{TwoRuns, Laws}
use Rattle.compare.specs.Compared.{AgreeWhere, Tallied}
use Rattle.compare.specs.Verdicts.{SameList, SpeedsEqual, VerdictOf}
use Rattle.compare.specs.declared.verdict.Verdict.{Verdict}
use Rattle.compare.specs.declared.tally.Tally.{Tally}
use Rattle.compare.proofs.Judging.{compared_length}
use Rattle.compare.proofs.Tallying.{none_differs}
use Rattle.compare.proofs.TwoCabs.{whole_defined}
use Rattle.plan.specs.declared.lists.Plans.{Plans}
use Rattle.plan.specs.declared.rows.Row.{Row}
use Rattle.side_by_side.specs.Cabs.{calls_planned, rows_planned}
use Rattle.side_by_side.specs.Findings.{FindingOf, agrees, found_status, notes_of}
use Rattle.side_by_side.specs.declared.finding.Finding.{Finding}
use Rattle.side_by_side.specs.declared.status.Status.TheVariants.{Agree}

agree_itself : {X : Type 0} (ks : List Bool) (xs : List X) → AgreeWhere ks xs xs
agree_itself [] xs = tt
agree_itself (k ∷ ks) [] = tt
agree_itself (k ∷ ks) (x ∷ xs) = (λ _. refl, agree_itself ks xs)

-- lists that are equal do not differ
none_in_equal : {X : Type 0} (ks : List Bool) (n : ℕ) (xs ys : List X) (t : Tally) → Tallied ks (take n xs) (take n ys) t → xs ≡ ys → t.differing ≡ 0
none_in_equal ks n xs ys t r e = (none_differs r).1 (subst (λ zs. AgreeWhere ks (take n xs) (take n zs)) e (agree_itself ks (take n xs)))

module _ (rs : TwoRuns) (rows other_rows : List Row) (f : Finding) (d : FindingOf rs rows other_rows f) (same : rows ≡ other_rows) (list : SameList rs) (speeds : SpeedsEqual rs f.verdict) where
  agrees_all : agrees f ≡ true
  agrees_all =
      let c = d.verdict.concluded in
      let v = d.verdict.found in
      let alike = c.one_list_alike list in
      let answers = eq-eqb _ _ (c.answers alike speeds) in
      let shown = none_in_equal _ _ _ _ _ v.tallies.messages (sym v.messages ∙ c.one_list_messages list speeds ∙ v.other_messages) in
      let messages = eq-eqb _ _ shown in
      let notes = d.notes.1 (ap (notes_of (vec_items f.verdict.marks)) same) in
      here f.verdict.alike _ _ f.notes_agree alike answers messages notes
    where
      here : (p q r s : Bool) → p ≡ true → q ≡ true → r ≡ true → s ≡ true → (p && (q && (r && s))) ≡ true
      here p q r s a b c e = simp (a, b, c, e)

  -- with a call the status is that all agree
  pub agree_status : (X : Type 0) (none : Bool) → none ≡ false → found_status {X = X} none (Ok f) ≡ Agree
  agree_status X none e = let a = agrees_all in simp (e, a)

-- a list that is not empty
some_there : (n m k : ℕ) → n ≡ k → 0 < k → ((n == 0) && (m == 0)) ≡ false
some_there zero m k e h = absurd (omega (arith, e, h))
some_there (suc n) m k e h = ap (λ b. b && (m == 0)) (ne_eqb (suc n) 0 (λ z. absurd (omega (arith, z))))

-- both cabs after their runs, where something was found
pub one_list_agrees : (rs : TwoRuns) (rows other_rows : List Row) {X : Type 0} (r : Result Finding X) (n m : ℕ) → Laws rs → n ≡ length rs.one.answers → IfOk r (λ f. FindingOf rs rows other_rows f) →
    (rows ≡ other_rows) × SameList rs → 0 < length rs.one.calls → IfOk r (λ f. SpeedsEqual rs f.verdict → found_status ((n == 0) && (m == 0)) r ≡ Agree)
one_list_agrees rs rows other_rows {X} (Ok f) n m laws e d one h =
    λ speeds.
    let w = whole_defined rs.one laws.defined.0 in
    agree_status rs rows other_rows f d one.0 one.1 speeds X _ (some_there n m (length rs.one.calls) (e ∙ w.0) h)
one_list_agrees rs rows other_rows (Err x) n m laws e d one h = tt

-- what is found beside a verdict
pub found_beside : (rs : TwoRuns) (rows other_rows : List Row) {X Y : Type 0} (r : Result Finding X) (w : Result Verdict Y) → IfOk w (λ v. VerdictOf rs v) → IfOk r (λ f. w ≡ Ok f.verdict) →
    IfOk r (λ f. Decides f.notes_agree (notes_of (vec_items f.verdict.marks) rows ≡ notes_of (vec_items f.verdict.marks) other_rows)) → IfOk r (λ f. FindingOf rs rows other_rows f)
found_beside rs rows other_rows (Ok f) w v e n = record { verdict = subst (λ x. IfOk x (λ y. VerdictOf rs y)) e v; notes = n }
found_beside rs rows other_rows (Err x) w v e n = tt

-- memory is wanting only where something is planned
pub wants_memory : (rs : TwoRuns) (p : Plans) {X Y : Type 0} (r : Result Finding X) (w : Result Verdict Y) (n m : ℕ) → Laws rs → IfOk w (λ v. VerdictOf rs v) →
    IfErr r (λ _. IfOk w (λ v. 0 < length (vec_items v.marks) + rows_planned p)) → IfErr w (λ _. 0 < n + m) → n ≡ length rs.one.calls → m ≡ length rs.other.calls → calls_planned p ≡ n + m →
    IfErr r (λ _. 0 < calls_planned p + rows_planned p)
wants_memory rs p (Ok f) w n m laws v e h a b c = tt
wants_memory rs p (Err x) (Ok y) n m laws v e h a b c =
    let o = whole_defined rs.one laws.defined.0 in
    let q = whole_defined rs.other laws.defined.1 in
    let l = compared_length v.found.likeness o.0 q.0 in
    omega (arith, e, l, a, b, c)
wants_memory rs p (Err x) (Err y) n m laws v e h a b c = omega (arith, h, c)
