-- Two cabs that were run: what is found of their runs, and what the laws over runs then say.
use Rattle.std.proofs.Common.{◌≡◌, ℕ, suc, true, ◌&&◌, List, [], ◌∷◌, map, length, Option, Ok, Err, Result, IfOk, sym, refl, ap, ◌∙◌, subst, subst₂, ap₂, ⊎_elim, arith}
use Rattle.std.proofs.lemmas.Bool.{cases_Bool}
use Rattle.cab_unit.specs.Events.{Event, is_cycle}
use Rattle.driver_desk.specs.declared.answer.Answer.{Answer}
use Rattle.bench.specs.Both.{AsDefined, Each, TwoRuns, Laws}
use Rattle.bench.specs.Laws.{AlikeEndEqual}
use Rattle.bench.specs.Likeness.{told, Alike, Alike.ended as nothing, Alike.cycles, Alike.other, AnswersAgree}
use Rattle.bench.specs.Runs.{Run, out_by}
use Rattle.cab_unit.specs.Steps.{next, reply, switched_on}
use Rattle.messages.specs.Shown.{Display, dark, after_call, top, messages_from}
use Rattle.cab_unit.specs.Events.{unblocked}
use Rattle.compare.specs.Compared.{AgreeWhere, sampled}
use Rattle.compare.specs.Decided.{Speeds}
use Rattle.compare.specs.Verdicts.{Lists, lists_in, Whole, Found, Decided, SameList, SpeedsEqual, Concluded, VerdictOf}
use Rattle.compare.specs.declared.verdict.Verdict.{Verdict}
use Rattle.compare.proofs.Asking.{same-cycles, same-call, same_behind}
use Rattle.compare.proofs.Judging.{compared_length, compared_long, then_none, told-unspeeded, none_of, nones_agree, length-nones}

-- a run gives something for each call
length-out : {C S A : Type 0} (step : C → S → S) (out : C → S → A) (cs : List C) (s : S) → length (out_by step out cs s) ≡ length cs
length-out step out [] s = refl
length-out step out (c ∷ cs) s = ap (λ n. suc n) (length-out step out cs (step c s))

-- a run that is as defined has an answer and a speed for each call
pub whole_defined : (r : Run) → AsDefined r → Whole (lists_in r)
whole_defined r d =
    subst (λ x. Whole (lists_in x)) (sym d) (
      length-out (next r.reads) (reply r.reads) r.calls (switched_on r.before),
      length-out (next r.reads) (λ e s. (next r.reads e s).speed) r.calls (switched_on r.before),
    )

-- runs of one list, up to blocks, are alike where the samples of speed are equal; and where the answers agree, they are equal
one_alike : (es fs : List Event) (as' bs : List Answer) (vs ws : List (Option ℕ)) → map unblocked es ≡ map unblocked fs → length as' ≡ length es → length bs ≡ length fs → Speeds vs es ws fs →
    AgreeWhere (sampled es fs) vs ws → (k : Alike (told es as' vs) (told fs bs ws)) × (AnswersAgree k → as' ≡ bs)
one_alike [] [] [] [] vs ws u a b n z = (nothing, λ _. refl)
one_alike [] [] (x ∷ as') bs vs ws u a b n z = absurd (omega (arith, a))
one_alike [] [] [] (x ∷ bs) vs ws u a b n z = absurd (omega (arith, b))
one_alike [] (f ∷ fs) as' bs vs ws u a b n z = let l = ap length u in absurd (omega (arith, l))
one_alike (e ∷ es) [] as' bs vs ws u a b n z = let l = ap length u in absurd (omega (arith, l))
one_alike (e ∷ es) (f ∷ fs) [] bs vs ws u a b n z = absurd (omega (arith, a))
one_alike (e ∷ es) (f ∷ fs) (x ∷ as') [] vs ws u a b n z = absurd (omega (arith, b))
one_alike (e ∷ es) (f ∷ fs) (x ∷ as') (y ∷ bs) [] ws u a b n z = absurd (omega (arith, n.0))
one_alike (e ∷ es) (f ∷ fs) (x ∷ as') (y ∷ bs) (v ∷ vs) [] u a b n z = absurd (omega (arith, n.1))
one_alike (e ∷ es) (f ∷ fs) (x ∷ as') (y ∷ bs) (v ∷ vs) (w ∷ ws) u a b n z =
    let c : unblocked e ≡ unblocked f = cc in
    let rest : map unblocked es ≡ map unblocked fs = cc in
    let i = one_alike es fs as' bs vs ws rest (omega (arith, a)) (omega (arith, b)) (omega (arith, n.0), omega (arith, n.1)) z.1 in
    ⊎_elim
    (λ (h : is_cycle e ≡ true).
    let g = sym (same-cycles e f c) ∙ h in
    (cycles h g (z.0 (subst₂ (λ p q. (p && q) ≡ true) (sym h) (sym g) refl)) i.0, λ o. ap₂ ◌∷◌ o.0 (i.1 o.1)))
    (λ h. (other h (same-call e f c h) i.0, λ o. ap₂ ◌∷◌ o.0 (i.1 o.1)))
    (cases_Bool (is_cycle e))

-- and where the answers are equal, so are the messages
one_shown : (d : Display) (es fs : List Event) (as' bs : List Answer) → map unblocked es ≡ map unblocked fs → as' ≡ bs → messages_from d es as' ≡ messages_from d fs bs
one_shown d es fs as' bs u a = subst (λ cs. messages_from d es as' ≡ messages_from d fs cs) a (here d es fs as' u)
  where
    here : (d : Display) (es fs : List Event) (as' : List Answer) → map unblocked es ≡ map unblocked fs → messages_from d es as' ≡ messages_from d fs as'
    here d [] [] as' u = refl
    here d [] (f ∷ fs) as' u = let l = ap length u in absurd (omega (arith, l))
    here d (e ∷ es) [] as' u = let l = ap length u in absurd (omega (arith, l))
    here d (e ∷ es) (f ∷ fs) [] u = refl
    here d (e ∷ es) (f ∷ fs) (x ∷ as') u =
        let c : unblocked e ≡ unblocked f = cc in
        let rest : map unblocked es ≡ map unblocked fs = cc in
        let same = same_behind e f x d c in
        ap (λ b. top b.lines ∷ messages_from b es as') same ∙ ap (λ l. top (after_call f x d).lines ∷ l) (here (after_call f x d) es fs as' rest)

module _ (rs : TwoRuns) (v : Verdict) (r : Each AsDefined rs) (law : AlikeEndEqual rs.one rs.other) (f : Found (lists_in rs.one) (lists_in rs.other) v) (d : Decided (lists_in rs.one) (lists_in rs.other) v) where
  concluded : Concluded rs v
  concluded = record {
    answers = λ e s. let k = d.shown e s.1 in k.2 (law s.0 k.0).answers;
    ends = λ e s. let k = d.shown e s.1 in (law s.0 k.0).ends;
    messages = λ e s. let k = d.shown e s.1 in (k.0, k.1, k.3 (law s.0 k.0).answers);
    one_list_alike = found_alike;
    one_list_answers = equal;
    one_list_messages = λ u s. f.messages ∙ one_shown dark rs.one.calls rs.other.calls rs.one.answers rs.other.answers u (equal u s) ∙ sym f.other_messages;
  }
    where
      o : Whole (lists_in rs.one)
      o = whole_defined rs.one r.0

      p : Whole (lists_in rs.other)
      p = whole_defined rs.other r.1

      found_alike : SameList rs → v.alike ≡ true
      found_alike u =
          let xs = told-unspeeded rs.one.calls rs.one.answers rs.one.speeds in
          let ys = told-unspeeded rs.other.calls rs.other.answers rs.other.speeds in
          let k = one_alike rs.one.calls rs.other.calls rs.one.answers rs.other.answers (map none_of rs.one.speeds) (map none_of rs.other.speeds) u o.0 p.0 (length-nones rs.one.speeds ∙ o.1, length-nones rs.other.speeds ∙ p.1)
          (nones_agree (sampled rs.one.calls rs.other.calls) rs.one.speeds rs.other.speeds) in
          d.alike.1 (subst₂ Alike (sym xs) (sym ys) k.0)

      equal : SameList rs → SpeedsEqual rs v → rs.one.answers ≡ rs.other.answers
      equal u s =
          let l = compared_long f.likeness (found_alike u) in
          let m = compared_length f.likeness o.0 p.0 in
          let samples = then_none _ _ _ _ _ f.tallies.speeds (omega (arith, m, l.0, o.1)) (omega (arith, m, l.0, p.1)) s.1 in
          let k = one_alike rs.one.calls rs.other.calls rs.one.answers rs.other.answers rs.one.speeds rs.other.speeds u o.0 p.0 (o.1, p.1) samples in
          k.1 (law s.0 k.0).answers

-- the verdict on two cabs, where there is one
pub judged : (rs : TwoRuns) {X : Type 0} (w : Result Verdict X) {one other : Lists} → one ≡ lists_in rs.one → other ≡ lists_in rs.other → Laws rs →
    IfOk w (λ v. Found one other v) → IfOk w (λ v. Decided one other v) → IfOk w (λ v. VerdictOf rs v)
judged rs (Ok v) p q law f d =
    let f' = subst₂ (λ x y. Found x y v) p q f in
    let d' = subst₂ (λ x y. Decided x y v) p q d in
    record { found = f'; decided = d'; concluded = concluded rs v law.defined law.likeness f' d' }
judged rs (Err e) p q law f d = tt
