-- Two runs walked front by front.
use Rattle.std.proofs.Common.{◌≡◌, ℕ, zero, suc, ◌+◌, ◌-◌, ◌<◌, ◌≤◌, Bool, true, false, not, ◌&&◌, List, [], ◌∷◌, ◌++◌, map, length, get_or, take, drop, replicate, is_some, Some, None, Option, Decides, sym, refl, ap, ◌∙◌, subst, ap₂, subst₂, ⊎_elim, arith}
use Rattle.std.proofs.lemmas.List.{length-drop, append_assoc, append-nil, take_all, nil_from_length}
use Rattle.std.proofs.lemmas.Bool.{and_parts, false≢true, cases_lt}
use Rattle.cab_unit.specs.declared.call.Call.{Call}
use Rattle.cab_unit.specs.Events.{Event, said}
use Rattle.driver_desk.specs.declared.answer.Answer.{Answer}
use Rattle.compare.specs.Decided.{LawApplies}
use Rattle.compare.specs.Marks.{stretch_marks, marks_of}
use Rattle.compare.specs.declared.marks.Mark.{Mark}
use Rattle.compare.specs.declared.marks.Mark.TheVariants.{Inside, Last}
use Rattle.driver_desk.specs.Answers.{is_accepted}
use Rattle.cab_unit.specs.Events.{is_text, unblocked}
use Rattle.ordering.specs.Shuffle.{Shuffle}
use Rattle.compare.specs.Walked.{Texts, Accepted, Loose, Apart, text_next, Within, Front, Front.same, Front.other, Front.stretch, Front.apart, Walked, Walked.ended, Walked.more, AsLong, shortest, Compared, Compared.whole, Compared.cut}
use Rattle.compare.proofs.Applying.{walked_applies}
use Rattle.compare.proofs.Shuffling.{shuffle_single}

-- laws of &&
and_none : (b : Bool) → (b && false) ≡ false
and_none true = refl
and_none false = refl

and_all : (b : Bool) → (b && true) ≡ b
and_all true = refl
and_all false = refl

and_assoc : (a b c : Bool) → ((a && b) && c) ≡ (a && (b && c))
and_assoc true b c = refl
and_assoc false b c = refl

-- what holds of two runs holds of equal ones
pub same_rows : (P : List Event → List Answer → List Event → List Answer → Type 0) {es es' fs fs' : List Event} {as' as'' bs bs' : List Answer} →
    es ≡ es' → as' ≡ as'' → fs ≡ fs' → bs ≡ bs' → P es as' fs bs → P es' as'' fs' bs'
same_rows P {es' = es'} {fs' = fs'} {as' = as'} {bs = bs} p q r s h = subst₂ (λ x y. P es' x fs' y) q s (subst₂ (λ x y. P x as' y bs) p r h)

-- what stands at a place of a run
pub text_found : (ks : List Call) (as' : List Answer) (i : ℕ) (k : Call) (a : Answer) → i < length ks → i < length as' → ((d : Call) → k ≡ get_or ks i d) → ((d : Answer) → a ≡ get_or as' i d) →
    text_next (drop i (map said ks)) (drop i as') ≡ (is_text (said k) && is_accepted a)
text_found [] as' i k a h g p q = absurd (omega (arith, h))
text_found (l ∷ ks) [] i k a h g p q = absurd (omega (arith, g))
text_found (l ∷ ks) (b ∷ as') zero k a h g p q = ap₂ (λ (x : Call) (y : Answer). is_text (said x) && is_accepted y) (sym (p k)) (sym (q a))
text_found (l ∷ ks) (b ∷ as') (suc i) k a h g p q = text_found ks as' i k a (omega (arith, h)) (omega (arith, g)) p q

-- the call at a place stands behind those before it
pub take_found : (ks : List Call) (i : ℕ) (k : Call) → i < length ks → ((d : Call) → k ≡ get_or ks i d) → take (suc i) (map said ks) ≡ take i (map said ks) ++ said k ∷ []
take_found [] i k h p = absurd (omega (arith, h))
take_found (l ∷ ks) zero k h p = ap (λ x. said x ∷ []) (sym (p k))
take_found (l ∷ ks) (suc i) k h p = ap (λ es. said l ∷ es) (take_found ks i k (omega (arith, h)) p)

-- nothing follows where no answer does
no_text : (es : List Event) → text_next es [] ≡ false
no_text [] = refl
no_text (e ∷ es) = refl

-- an accepted text more
abbrev Longer : ℕ → List Event → List Answer → Type 0
Longer k es as' = (k ≤ length es) × (k ≤ length as') × Texts (take k es) × Accepted (take k as')

accepted_none : (a : Answer) → is_accepted a ≡ true → a.outcome ≡ None
accepted_none a h = here a.outcome h
  where
    here : {X : Type 0} (o : Option X) → not (is_some o) ≡ true → o ≡ None
    here None e = refl
    here (Some x) e = absurd (false≢true e)

longer : (k : ℕ) (es : List Event) (as' : List Answer) → Texts (take k es) → Accepted (take k as') → text_next (drop k es) (drop k as') ≡ true → Longer (suc k) es as'
longer zero [] as' t a h = absurd (false≢true h)
longer zero (e ∷ es) [] t a h = absurd (false≢true h)
longer zero (e ∷ es) (x ∷ as') t a h =
    let l = and_parts (is_text e) (is_accepted x) h in
    (omega arith, omega arith, (l.0, tt), (accepted_none x l.1, tt))
longer (suc k) [] as' t a h = absurd (false≢true h)
longer (suc k) (e ∷ es) [] t a h = absurd (false≢true (sym (no_text (drop k es)) ∙ h))
longer (suc k) (e ∷ es) (x ∷ as') t a h =
    let i = longer k es as' t.1 a.1 h in
    (omega (arith, i.0), omega (arith, i.1), (t.0, i.2), (a.0, i.3))

pub one_more : (n : ℕ) → suc n ≡ n + 1
one_more n = omega arith

-- of both runs
pub looser : (k : ℕ) (es fs : List Event) (as' bs : List Answer) → Loose k es as' fs bs → text_next (drop k es) (drop k as') ≡ true → text_next (drop k fs) (drop k bs) ≡ true → Loose (k + 1) es as' fs bs
looser k es fs as' bs l h g =
    let i = longer k es as' l.1 l.2 h in
    let j = longer k fs bs l.3 l.4 g in
    subst (λ n. Loose n es as' fs bs) (one_more k) ((i.0, i.1, j.0, j.1), i.2, i.3, j.2, j.3)

-- at no place, nor here
pub apart_more : (k : ℕ) (es fs : List Event) → Apart (suc k) es fs → (Shuffle (take (k + 1) es) (take (k + 1) fs) → ⊥) → Apart (suc (k + 1)) es fs
apart_more k es fs n h j l m s =
    ⊎_elim
    (λ (b : j < suc k). n j l b s)
    (λ (b : suc k ≤ j). let e : j ≡ k + 1 = omega arith in h (subst (λ i. Shuffle (take i es) (take i fs)) e s))
    (cases_lt j (suc k))

pub apart_here : (k : ℕ) (es fs : List Event) → Apart (suc k) es fs → Apart (k + 1) es fs
apart_here k es fs n = subst (λ i. Apart i es fs) (one_more k) n

-- one call of each in front
pub front_same : (ks ls : List Call) (as' bs : List Answer) (d e : Call) → 0 < length (map said ks) → AsLong (map said ks) as' (map said ls) bs →
    unblocked (said (get_or ks 0 d)) ≡ unblocked (said (get_or ls 0 e)) → Front true false 1 (map said ks) as' (map said ls) bs
front_same [] ls as' bs d e h l n = absurd (omega (arith, h))
front_same (k ∷ ks) [] as' bs d e h l n = absurd (omega (arith, l.0))
front_same (k ∷ ks) (m ∷ ls) [] bs d e h l n = absurd (omega (arith, l.1))
front_same (k ∷ ks) (m ∷ ls) (a ∷ as') [] d e h l n = absurd (omega (arith, l.2))
front_same (k ∷ ks) (m ∷ ls) (a ∷ as') (b ∷ bs) d e h l n = same n

pub front_other : (ks ls : List Call) (as' bs : List Answer) (d e : Call) → 0 < length (map said ks) → AsLong (map said ks) as' (map said ls) bs →
    (unblocked (said (get_or ks 0 d)) ≡ unblocked (said (get_or ls 0 e)) → ⊥) → (text_next (map said ks) as' && text_next (map said ls) bs) ≡ false → Front false false 1 (map said ks) as' (map said ls) bs
front_other [] ls as' bs d e h l n t = absurd (omega (arith, h))
front_other (k ∷ ks) [] as' bs d e h l n t = absurd (omega (arith, l.0))
front_other (k ∷ ks) (m ∷ ls) [] bs d e h l n t = absurd (omega (arith, l.1))
front_other (k ∷ ks) (m ∷ ls) (a ∷ as') [] d e h l n t = absurd (omega (arith, l.2))
front_other (k ∷ ks) (m ∷ ls) (a ∷ as') (b ∷ bs) d e h l n t = other n t

-- of the same elements where there is one only, it is that
single : {X : Type 0} (x y : X) → Shuffle (x ∷ []) (y ∷ []) → x ≡ y
single x y s = let e : y ∷ [] ≡ x ∷ [] = shuffle_single s x refl in cc

-- first calls that differ are no stretch
pub front_apart : (ks ls : List Call) (d e : Call) → 0 < length (map said ks) → 0 < length (map said ls) → (unblocked (said (get_or ks 0 d)) ≡ unblocked (said (get_or ls 0 e)) → ⊥) → Apart 2 (map said ks) (map said ls)
front_apart [] ls d e h l n j p q s = absurd (omega (arith, h))
front_apart (k ∷ ks) [] d e h l n j p q s = absurd (omega (arith, l))
front_apart (k ∷ ks) (m ∷ ls) d e h l n zero p q s = absurd (omega (arith, p))
front_apart (k ∷ ks) (m ∷ ls) d e h l n (suc zero) p q s = n (ap unblocked (single (said k) (said m) s))
front_apart (k ∷ ks) (m ∷ ls) d e h l n (suc (suc j)) p q s = absurd (omega (arith, q))

-- a front is not empty, and lies within the lists
pub front_within : {t m : Bool} {k : ℕ} {es fs : List Event} {as' bs : List Answer} → Front t m k es as' fs bs → (0 < k) × Within k es as' fs bs
front_within (same q) = (omega arith, (omega arith, omega arith, omega arith, omega arith))
front_within (other n t) = (omega arith, (omega arith, omega arith, omega arith, omega arith))
front_within (stretch k l h n s) = (omega (arith, l), h.0)
front_within (apart k l h t n) = (l, h.0)

-- what is walked of the rests, behind what was found so far, is walked of all
abbrev pub Walks : List Event → List Answer → List Event → List Answer → List Event → List Answer → List Event → List Answer → Bool → List Mark → Type 0
Walks es as' fs bs es' as'' fs' bs' s ms = (u : Bool) (ns : List Mark) → Walked u ns es' as'' fs' bs' → Walked (s && u) (ms ++ ns) es as' fs bs

module _ {t m : Bool} {k : ℕ} {es' es'' fs' fs'' : List Event} {as'' as₃ bs' bs'' : List Answer}
    (r : Front t m k es' as'' fs' bs') (p : es'' ≡ drop k es') (q : as₃ ≡ drop k as'') (p' : fs'' ≡ drop k fs') (q' : bs'' ≡ drop k bs') where
  -- one front more
  pub walk_more : {es fs : List Event} {as' bs : List Answer} (s : Bool) (ms : List Mark) → Walks es as' fs bs es' as'' fs' bs' s ms → Walks es as' fs bs es'' as₃ fs'' bs'' (s && t) (ms ++ marks_of m k)
  walk_more {es} {fs} {as'} {bs} s ms inv u ns w =
      let rest = same_rows (Walked u ns) p q p' q' w in
      subst₂ (λ x y. Walked x y es as' fs bs) (sym (and_assoc s t u)) (sym (append_assoc ms (marks_of m k) ns)) (inv (t && u) (marks_of m k ++ ns) (more r rest))

  -- behind a front the lists are shorter, and have as many answers again
  pub front_fits : AsLong es' as'' fs' bs' → AsLong es'' as₃ fs'' bs'' × (0 < k) × (k + length es'' ≡ length es')
  front_fits h =
      let w = front_within r in
      let n : k ≤ length es' = w.1.0 in
      let e = ap length p ∙ length-drop k es' in
      let a = ap length q ∙ length-drop k as'' in
      let f = ap length p' ∙ length-drop k fs' in
      let b = ap length q' ∙ length-drop k bs' in
      ((omega (arith, h), omega (arith, h), omega (arith, h)), w.0, omega arith)

-- where no call is left, nothing is left to walk
pub walk_past : {es fs es' fs' : List Event} {as' bs as'' bs' : List Answer} (s : Bool) (ms : List Mark) → AsLong es' as'' fs' bs' → length es' ≡ 0 → Walks es as' fs bs es' as'' fs' bs' s ms → Walked s ms es as' fs bs
walk_past {es} {fs} {as' = as'} {bs = bs} s ms h l inv =
    let none = same_rows (Walked true []) (sym (nil_from_length _ l)) (sym (nil_from_length _ (h.1 ∙ l))) (sym (nil_from_length _ (h.0 ∙ l))) (sym (nil_from_length _ (h.2 ∙ l))) ended in
    subst₂ (λ x y. Walked x y es as' fs bs) (and_all s) (append-nil ms) (inv true [] none)

-- as many marks more
pub marks_more : {X : Type 0} (ms : List X) (n i k : ℕ) (m : X) → n ≡ length ms → i ≡ n → take (i + k) ms ++ replicate ((i + k) - n) m ≡ ms ++ replicate k m
marks_more ms n i k m e p =
    let past : length ms ≤ i + k = omega arith in
    let left : (i + k) - n ≡ k = omega arith in
    ap₂ (λ x y. x ++ replicate y m) (take_all (i + k) ms past) left

-- the marks of a stretch, but for the last
pub inside_last : (k : ℕ) → replicate k Inside ++ Last ∷ [] ≡ stretch_marks (suc k)
inside_last zero = refl
inside_last (suc k) = ap (λ l. Inside ∷ l) (inside_last k)

-- a stretch more
pub stretch_more : (ms : List Mark) (n i k : ℕ) → n ≡ length ms → i ≡ n → 0 < k → (take ((i + k) - 1) ms ++ replicate (((i + k) - 1) - n) Inside) ++ Last ∷ [] ≡ ms ++ stretch_marks k
stretch_more ms n i zero e p h = absurd (omega (arith, h))
stretch_more ms n i (suc j) e p h =
    let at : (i + suc j) - 1 ≡ i + j = omega arith in
    ap (λ l. (take l ms ++ replicate (l - n) Inside) ++ Last ∷ []) at
    ∙ ap (λ (l : List Mark). l ++ Last ∷ []) (marks_more ms n i j Inside e p)
    ∙ append_assoc ms (replicate j Inside) (Last ∷ [])
    ∙ ap (λ l. ms ++ l) (inside_last j)

-- lists of any lengths, walked as far as all go
pub compared_by : (es : List Event) (as' : List Answer) (fs : List Event) (bs : List Answer) (n : ℕ) (r s : Bool) (ms : List Mark) →
    n ≡ shortest es as' fs bs → Decides r (AsLong es as' fs bs) → Walked s ms (take n es) (take n as') (take n fs) (take n bs) → Compared (r && s) ms es as' fs bs
compared_by es as' fs bs n true s ms e d w =
    let h = d.0 refl in
    whole h (same_rows (Walked s ms) (take_all n es (omega (arith, h))) (take_all n as' (omega (arith, h))) (take_all n fs (omega (arith, h))) (take_all n bs (omega (arith, h))) w)
compared_by es as' fs bs n false s ms e d w = cut n (λ h. false≢true (d.1 h)) e w

-- lists that are compared and found alike
pub compared_applies : {s : Bool} {ms : List Mark} {es fs : List Event} {as' bs : List Answer} → Compared s ms es as' fs bs → s ≡ true → LawApplies ms es as' fs bs
compared_applies (whole h w) e = walked_applies w e
compared_applies (cut n h m w) e = absurd (false≢true e)
