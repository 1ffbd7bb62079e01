-- The walk of two runs finds one thing: two walks of the same runs find the same.
use Rattle.std.proofs.Common.{◌≡◌, ℕ, zero, suc, ◌<◌, ◌≤◌, Bool, true, false, ◌&&◌, List, [], ◌∷◌, ◌++◌, length, take, drop, sym, refl, ap, ◌∙◌, subst, ap₂, ⊎_elim, arith}
use Rattle.std.proofs.lemmas.List.{length-append}
use Rattle.std.proofs.lemmas.Bool.{true≢false, and_from, and_parts, cases_lt}
use Rattle.cab_unit.specs.Events.{Event, unblocked, is_text}
use Rattle.driver_desk.specs.Answers.{is_accepted}
use Rattle.driver_desk.specs.declared.answer.Answer.{Answer}
use Rattle.ordering.specs.Shuffle.{Shuffle}
use Rattle.compare.specs.Decided.{OneVerdict}
use Rattle.compare.specs.Verdicts.{OneTally}
use Rattle.compare.specs.Marks.{marks_of}
use Rattle.compare.specs.Walked.{Loose, text_next, Front, Front.same, Front.other, Front.stretch, Front.apart, Walked, Walked.ended, Walked.more, Compared, Compared.whole, Compared.cut}
use Rattle.compare.specs.Compared.{Tallied, Tallied.nothing, Tallied.left_out, Tallied.equal, Tallied.differs, one_equal, one_differs}
use Rattle.compare.specs.declared.marks.Mark.{Mark}
use Rattle.compare.specs.declared.tally.Tally.{Tally}
use Rattle.compare.proofs.Asking.{same-call}
use Rattle.compare.proofs.Applying.{text_no_cycle}
use Rattle.compare.proofs.Deciding.{none_accepted}
use Rattle.compare.proofs.Shuffling.{shuffle_refl}
use Rattle.compare.proofs.Walking.{front_within}

-- the first texts of a loose piece go on
loose_next : (j k : ℕ) (es fs : List Event) (as' bs : List Answer) → j < k → Loose k es as' fs bs → (text_next (drop j es) (drop j as') && text_next (drop j fs) (drop j bs)) ≡ true
loose_next j zero es fs as' bs h l = absurd (omega (arith, h))
loose_next j (suc k) [] fs as' bs h l = absurd (omega (arith, l.0.0))
loose_next j (suc k) (e ∷ es) fs [] bs h l = absurd (omega (arith, l.0.1))
loose_next j (suc k) (e ∷ es) [] (a ∷ as') bs h l = absurd (omega (arith, l.0.2))
loose_next j (suc k) (e ∷ es) (f ∷ fs) (a ∷ as') [] h l = absurd (omega (arith, l.0.3))
loose_next zero (suc k) (e ∷ es) (f ∷ fs) (a ∷ as') (b ∷ bs) h l =
    and_from _ _ (and_from _ _ l.1.0 (none_accepted a l.2.0)) (and_from _ _ l.3.0 (none_accepted b l.4.0))
loose_next (suc j) (suc k) (e ∷ es) (f ∷ fs) (a ∷ as') (b ∷ bs) h l =
    loose_next j k es fs as' bs (omega (arith, h)) ((omega (arith, l.0.0), omega (arith, l.0.1), omega (arith, l.0.2), omega (arith, l.0.3)), l.1.1, l.2.1, l.3.1, l.4.1)

-- what is said of a front: whether it is alike, whether it is marked, how long it is
pub record Said (t t' m m' : Bool) (k k' : ℕ) : Type 0 where
  pub alike : t ≡ t'
  pub marked : m ≡ m'
  pub long : k ≡ k'

-- a front whose first calls are the same is one call
equal_first : (k : ℕ) (e f : Event) (es fs : List Event) (a b : Answer) (as' bs : List Answer) → 0 < k → unblocked e ≡ unblocked f → Loose k (e ∷ es) (a ∷ as') (f ∷ fs) (b ∷ bs) → Shuffle (take 1 (e ∷ es)) (take 1 (f ∷ fs))
equal_first k e f es fs a b as' bs h q l =
    let n = loose_next zero k (e ∷ es) (f ∷ fs) (a ∷ as') (b ∷ bs) h l in
    let t = and_parts (is_text e) (is_accepted a) (and_parts (is_text e && is_accepted a) _ n).0 in
    subst (λ g. Shuffle (e ∷ []) (g ∷ [])) (same-call e f q (text_no_cycle e t.0)) (shuffle_refl (e ∷ []))

-- of two lengths none is less
no_less : (i j : ℕ) → (i < j → ⊥) → (j < i → ⊥) → i ≡ j
no_less i j h g = ⊎_elim (λ l. absurd (h l)) (λ (l : j ≤ i). ⊎_elim (λ m. absurd (g m)) (λ (m : i ≤ j). omega (arith, l, m)) (cases_lt j i)) (cases_lt i j)

front_unique : {t m t' m' : Bool} {k k' : ℕ} {es fs : List Event} {as' bs : List Answer} → Front t m k es as' fs bs → Front t' m' k' es as' fs bs → Said t t' m m' k k'
front_unique (same q) (same r) = record { alike = refl; marked = refl; long = refl }
front_unique (same q) (other n t) = absurd (n q)
front_unique (same {e} {f} {es} {fs} {a} {b} {as'} {bs} q) (stretch k h l n s) = absurd (n 1 (omega arith) h (equal_first k e f es fs a b as' bs (omega (arith, h)) q l))
front_unique (same {e} {f} {es} {fs} {a} {b} {as'} {bs} q) (apart k h l t n) = absurd (n 1 (omega arith) (omega (arith, h)) (equal_first k e f es fs a b as' bs h q l))
front_unique (other n t) (same q) = absurd (n q)
front_unique (other n t) (other n' t') = record { alike = refl; marked = refl; long = refl }
front_unique (other {e} {f} {es} {fs} {a} {b} {as'} {bs} n t) (stretch k h l n' s) = absurd (true≢false (sym (loose_next zero k (e ∷ es) (f ∷ fs) (a ∷ as') (b ∷ bs) (omega (arith, h)) l) ∙ t))
front_unique (other {e} {f} {es} {fs} {a} {b} {as'} {bs} n t) (apart k h l t' n') = absurd (true≢false (sym (loose_next zero k (e ∷ es) (f ∷ fs) (a ∷ as') (b ∷ bs) h l) ∙ t))
front_unique (stretch k h l n s) (same {e} {f} {es} {fs} {a} {b} {as'} {bs} q) = absurd (n 1 (omega arith) h (equal_first k e f es fs a b as' bs (omega (arith, h)) q l))
front_unique (stretch k h l n' s) (other {e} {f} {es} {fs} {a} {b} {as'} {bs} n t) = absurd (true≢false (sym (loose_next zero k (e ∷ es) (f ∷ fs) (a ∷ as') (b ∷ bs) (omega (arith, h)) l) ∙ t))
front_unique (stretch k h l n s) (stretch k' h' l' n' s') = record { alike = refl; marked = refl; long = no_less k k' (λ g. n' k (omega (arith, h)) g s) (λ g. n k' (omega (arith, h')) g s') }
front_unique (stretch k {es} {fs} {as'} {bs} h l n s) (apart k' h' l' t' n') =
    ⊎_elim
    (λ (g : k < suc k'). absurd (n' k (omega (arith, h)) g s))
    (λ (g : suc k' ≤ k). absurd (true≢false (sym (loose_next k' k es fs as' bs (omega (arith, g)) l) ∙ t')))
    (cases_lt k (suc k'))
front_unique (apart k h l t' n) (same {e} {f} {es} {fs} {a} {b} {as'} {bs} q) = absurd (n 1 (omega arith) (omega (arith, h)) (equal_first k e f es fs a b as' bs h q l))
front_unique (apart k h l t' n') (other {e} {f} {es} {fs} {a} {b} {as'} {bs} n t) = absurd (true≢false (sym (loose_next zero k (e ∷ es) (f ∷ fs) (a ∷ as') (b ∷ bs) h l) ∙ t))
front_unique (apart k' {es} {fs} {as'} {bs} h' l' t' n') (stretch k h l n s) =
    ⊎_elim
    (λ (g : k < suc k'). absurd (n' k (omega (arith, h)) g s))
    (λ (g : suc k' ≤ k). absurd (true≢false (sym (loose_next k' k es fs as' bs (omega (arith, g)) l) ∙ t')))
    (cases_lt k (suc k'))
front_unique (apart k {es} {fs} {as'} {bs} h l t n) (apart k' h' l' t' n') =
    record {
      alike = refl;
      marked = refl;
      long = no_less k k' (λ g. true≢false (sym (loose_next k k' es fs as' bs g l') ∙ t)) (λ g. true≢false (sym (loose_next k' k es fs as' bs g l) ∙ t'));
    }

-- of two runs one likeness is found
pub walked_unique : {s s' : Bool} {ms ms' : List Mark} {es fs : List Event} {as' bs : List Answer} → Walked s ms es as' fs bs → Walked s' ms' es as' fs bs → (s ≡ s') × (ms ≡ ms')
walked_unique ended ended = (refl, refl)
walked_unique ended (more {k = k} r w) = let h = front_within r in absurd (omega (arith, h.0, h.1.0))
walked_unique (more {k = k} r w) ended = let h = front_within r in absurd (omega (arith, h.0, h.1.0))
walked_unique (more {t} {m} {s} {k} {ms} {es} {fs} {as'} {bs} r w) (more {t = t'} {m = m'} {s = s'} {k = k'} {ms = ms'} r' w') =
    let u = front_unique r r' in
    let i = walked_unique w (subst (λ n. Walked s' ms' (drop n es) (drop n as') (drop n fs) (drop n bs)) (sym u.long) w') in
    (ap₂ ◌&&◌ u.alike i.0, ap₂ ◌++◌ (ap₂ marks_of u.marked u.long) i.1)

-- and so of lists of any lengths
one : {s s' : Bool} {ms ms' : List Mark} {es fs : List Event} {as' bs : List Answer} → Compared s ms es as' fs bs → Compared s' ms' es as' fs bs → (s ≡ s') × (ms ≡ ms')
one (whole l w) (whole l' w') = walked_unique w w'
one (whole l w) (cut n h e w') = absurd (h l)
one (cut n h e w) (whole l w') = absurd (h l)
one (cut n {s} {ms} {es} {fs} {as'} {bs} h e w) (cut n' {s = s'} {ms = ms'} h' e' w') =
    (refl, (walked_unique w (subst (λ i. Walked s' ms' (take i es) (take i as') (take i fs) (take i bs)) (e' ∙ sym e) w')).1)

pub one_verdict : OneVerdict
one_verdict s s' ms ms' es fs as' bs c d = one c d

-- lists with one more behind are equal where both parts are
behind : {X : Type 0} (xs ys : List X) (x y : X) → xs ++ x ∷ [] ≡ ys ++ y ∷ [] → (xs ≡ ys) × (x ≡ y)
behind [] [] x y e = (refl, cc)
behind [] (z ∷ ys) x y e = let l = ap length e in let m = length-append ys (y ∷ []) in absurd (omega (arith, l, m))
behind (z ∷ xs) [] x y e = let l = ap length e in let m = length-append xs (x ∷ []) in absurd (omega (arith, l, m))
behind (z ∷ xs) (w ∷ ys) x y e =
    let first : z ≡ w = cc in
    let rest : xs ++ x ∷ [] ≡ ys ++ y ∷ [] = cc in
    let i = behind xs ys x y rest in
    (ap₂ ◌∷◌ first i.0, i.1)

not_empty : {X : Type 0} (xs : List X) (x : X) → [] ≡ xs ++ x ∷ [] → ⊥
not_empty xs x e = let l = ap length e in let m = length-append xs (x ∷ []) in omega (arith, l, m)

tally_unique : {X : Type 0} {ks ks' : List Bool} {xs xs' ys ys' : List X} {t t' : Tally} → Tallied ks xs ys t → Tallied ks' xs' ys' t' → ks ≡ ks' → xs ≡ xs' → ys ≡ ys' → t ≡ t'
tally_unique nothing nothing p q r = refl
tally_unique nothing (left_out x y {ks} w) p q r = absurd (not_empty ks false p)
tally_unique nothing (equal x y {ks} e w) p q r = absurd (not_empty ks true p)
tally_unique nothing (differs x y {ks} e w) p q r = absurd (not_empty ks true p)
tally_unique (left_out x y {ks} w) nothing p q r = absurd (not_empty ks false (sym p))
tally_unique (equal x y {ks} e w) nothing p q r = absurd (not_empty ks true (sym p))
tally_unique (differs x y {ks} e w) nothing p q r = absurd (not_empty ks true (sym p))
tally_unique (left_out x y {ks} {xs} {ys} v) (left_out x' y' {ks = ks'} {xs = xs'} {ys = ys'} w) p q r = tally_unique v w (behind ks ks' false false p).0 (behind xs xs' x x' q).0 (behind ys ys' y y' r).0
tally_unique (left_out x y {ks} v) (equal x' y' {ks = ks'} e w) p q r = absurd (true≢false (sym (behind ks ks' false true p).1))
tally_unique (left_out x y {ks} v) (differs x' y' {ks = ks'} e w) p q r = absurd (true≢false (sym (behind ks ks' false true p).1))
tally_unique (equal x y {ks} e v) (left_out x' y' {ks = ks'} w) p q r = absurd (true≢false (behind ks ks' true false p).1)
tally_unique (differs x y {ks} e v) (left_out x' y' {ks = ks'} w) p q r = absurd (true≢false (behind ks ks' true false p).1)
tally_unique (equal x y {ks} {xs} {ys} e v) (equal x' y' {ks = ks'} {xs = xs'} {ys = ys'} e' w) p q r =
    ap one_equal (tally_unique v w (behind ks ks' true true p).0 (behind xs xs' x x' q).0 (behind ys ys' y y' r).0)
tally_unique (equal x y {ks} {xs} {ys} e v) (differs x' y' {ks = ks'} {xs = xs'} {ys = ys'} e' w) p q r = absurd (e' (sym (behind xs xs' x x' q).1 ∙ e ∙ (behind ys ys' y y' r).1))
tally_unique (differs x y {ks} {xs} {ys} e v) (equal x' y' {ks = ks'} {xs = xs'} {ys = ys'} e' w) p q r = absurd (e ((behind xs xs' x x' q).1 ∙ e' ∙ sym (behind ys ys' y y' r).1))
tally_unique (differs x y {ks} {xs} {ys} e v) (differs x' y' {ks = ks'} {xs = xs'} {ys = ys'} e' w) p q r =
    let b = behind xs xs' x x' q in
    ap₂ one_differs (ap length b.0) (tally_unique v w (behind ks ks' true true p).0 b.0 (behind ys ys' y y' r).0)

-- of the same marks one tally is found
pub one_tally : OneTally
one_tally first second marks shown other_shown t u c d = record {
  speeds = tally_unique c.speeds d.speeds refl refl refl;
  answers = tally_unique c.answers d.answers refl refl refl;
  messages = tally_unique c.messages d.messages refl refl refl;
}
