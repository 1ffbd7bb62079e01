-- Lists that are walked and found alike: where the samples of speed were equal, the runs as told are alike.
use Rattle.std.proofs.Common.{◌≡◌, ℕ, zero, suc, ◌≤◌, Bool, true, false, ◌&&◌, List, [], ◌∷◌, ◌++◌, length, take, drop, replicate, Option, sym, refl, ap, ◌∙◌, subst, ap₂, subst₂, ⊎_elim, arith}
use Rattle.std.proofs.lemmas.List.{length-take-le}
use Rattle.std.proofs.lemmas.Bool.{false≢true, cases_Bool}
use Rattle.cab_unit.specs.Events.{Event, Event.cycle, Event.order, Event.press, Event.take as taken, is_cycle, is_text, unblocked}
use Rattle.driver_desk.specs.declared.answer.Answer.{Answer}
use Rattle.ordering.specs.Shuffle.{Shuffle}
use Rattle.bench.specs.Likeness.{Told, told, calls_of, AcceptedTexts, Alike, Alike.ended as nothing, Alike.cycles, Alike.other, Alike.texts as stretches, AnswersAgree, left_open}
use Rattle.messages.specs.Shown.{Display, after_call, after_calls, top, messages_from}
use Rattle.messages.specs.Stretches.{Fits, after_texts}
use Rattle.messages.proofs.Runs.{after_calls_texts, rising_after, rising_after_calls, differ_after, differ_after_calls}
use Rattle.messages.proofs.Stretch.{stretch_law}
use Rattle.compare.specs.Compared.{AgreeWhere, sampled, Fitting}
use Rattle.compare.specs.Decided.{Speeds, Stands, LawApplies}
use Rattle.compare.specs.Marks.{opens, shown_kept, stretch_marks}
use Rattle.compare.specs.declared.marks.Mark.{Mark}
use Rattle.compare.specs.declared.marks.Mark.TheVariants.{Compared}
use Rattle.compare.specs.Walked.{Texts, Accepted, Within, Front.same, Front.other as other_call, Front.stretch, Front.apart, Walked, Walked.ended, Walked.more}
use Rattle.compare.proofs.Asking.{same-cycles, same-call, same_behind}

-- a text is no cycle
pub text_no_cycle : (e : Event) → is_text e ≡ true → is_cycle e ≡ false
text_no_cycle (cycle block) h = absurd (false≢true h)
text_no_cycle (order o) h = refl
text_no_cycle (press n) h = refl
text_no_cycle (taken t) h = refl

-- a run is told in two parts
told-parts : (k : ℕ) (es : List Event) (as' : List Answer) (vs : List (Option ℕ)) → k ≤ length es → k ≤ length as' → length vs ≡ length es →
    told es as' vs ≡ told (take k es) (take k as') (take k vs) ++ told (drop k es) (drop k as') (drop k vs)
told-parts zero es as' vs h g n = refl
told-parts (suc k) [] as' vs h g n = absurd (omega arith)
told-parts (suc k) (e ∷ es) [] vs h g n = absurd (omega arith)
told-parts (suc k) (e ∷ es) (a ∷ as') [] h g n = absurd (omega (arith, n))
told-parts (suc k) (e ∷ es) (a ∷ as') (v ∷ vs) h g n =
    let x : Told = record { call = e; answer = a; speed = v } in
    ap (λ l. x ∷ l) (told-parts k es as' vs (omega arith) (omega arith) (omega (arith, n)))

-- texts that were accepted are told as such
told-accepted : (es : List Event) (as' : List Answer) (vs : List (Option ℕ)) → Texts es → Accepted as' → AcceptedTexts (told es as' vs)
told-accepted [] as' vs t a = tt
told-accepted (e ∷ es) [] vs t a = tt
told-accepted (e ∷ es) (x ∷ as') [] t a = tt
told-accepted (e ∷ es) (x ∷ as') (v ∷ vs) t a = ((t.0, a.0), told-accepted es as' vs t.1 a.1)

-- what is told has the calls
pub told-calls : (es : List Event) (as' : List Answer) (vs : List (Option ℕ)) → length as' ≡ length es → length vs ≡ length es → calls_of (told es as' vs) ≡ es
told-calls [] as' vs h n = refl
told-calls (e ∷ es) [] vs h n = absurd (omega (arith, h))
told-calls (e ∷ es) (a ∷ as') [] h n = absurd (omega (arith, n))
told-calls (e ∷ es) (a ∷ as') (v ∷ vs) h n = ap (λ l. e ∷ l) (told-calls es as' vs (omega (arith, h)) (omega (arith, n)))

-- the samples behind the first k
samples_behind : (k : ℕ) (es fs : List Event) (vs ws : List (Option ℕ)) → AgreeWhere (sampled es fs) vs ws → AgreeWhere (sampled (drop k es) (drop k fs)) (drop k vs) (drop k ws)
samples_behind zero es fs vs ws g = g
samples_behind (suc k) [] fs vs ws g = tt
samples_behind (suc k) (e ∷ es) [] vs ws g = none (drop k es)
  where
    none : (xs : List Event) → AgreeWhere (sampled xs []) (drop (suc k) vs) (drop (suc k) ws)
    none [] = tt
    none (x ∷ xs) = tt
samples_behind (suc k) (e ∷ es) (f ∷ fs) [] ws g = none (sampled (drop k es) (drop k fs))
  where
    none : (ks : List Bool) → AgreeWhere ks [] (drop (suc k) ws)
    none [] = tt
    none (x ∷ xs) = tt
samples_behind (suc k) (e ∷ es) (f ∷ fs) (v ∷ vs) [] g = none (sampled (drop k es) (drop k fs)) (drop k vs)
  where
    none : (ks : List Bool) (us : List (Option ℕ)) → AgreeWhere ks us []
    none [] us = tt
    none (x ∷ xs) [] = tt
    none (x ∷ xs) (u ∷ us) = tt
samples_behind (suc k) (e ∷ es) (f ∷ fs) (v ∷ vs) (w ∷ ws) g = samples_behind k es fs vs ws g.1

-- the marks of a stretch leave its answers open
pub opens-stretch : (k : ℕ) (ms : List Mark) → opens (stretch_marks k ++ ms) ≡ replicate k true ++ opens ms
opens-stretch zero ms = refl
opens-stretch (suc zero) ms = refl
opens-stretch (suc (suc k)) ms = ap (λ l. true ∷ l) (opens-stretch (suc k) ms)

-- in a stretch the messages are compared behind the last text alone
stretch_shown : (k : ℕ) (ms : List Mark) (es fs : List Event) (as' bs : List Answer) (d d' : Display) → Within (suc k) es as' fs bs →
    top (after_calls (take (suc k) es) (take (suc k) as') d).lines ≡ top (after_calls (take (suc k) fs) (take (suc k) bs) d').lines →
    AgreeWhere (shown_kept ms) (messages_from (after_calls (take (suc k) es) (take (suc k) as') d) (drop (suc k) es) (drop (suc k) as')) (messages_from (after_calls (take (suc k) fs) (take (suc k) bs) d') (drop (suc k) fs) (drop (suc k) bs)) →
    AgreeWhere (shown_kept (stretch_marks (suc k) ++ ms)) (messages_from d es as') (messages_from d' fs bs)
stretch_shown k ms [] fs as' bs d d' h t r = absurd (omega (arith, h.0))
stretch_shown k ms (e ∷ es) fs [] bs d d' h t r = absurd (omega (arith, h.1))
stretch_shown k ms (e ∷ es) [] (a ∷ as') bs d d' h t r = absurd (omega (arith, h.2))
stretch_shown k ms (e ∷ es) (f ∷ fs) (a ∷ as') [] d d' h t r = absurd (omega (arith, h.3))
stretch_shown zero ms (e ∷ es) (f ∷ fs) (a ∷ as') (b ∷ bs) d d' h t r = (λ _. t, r)
stretch_shown (suc k) ms (e ∷ es) (f ∷ fs) (a ∷ as') (b ∷ bs) d d' h t r =
    (λ g. absurd (false≢true g), stretch_shown k ms es fs as' bs (after_call e a d) (after_call f b d') (omega (arith, h.0), omega (arith, h.1), omega (arith, h.2), omega (arith, h.3)) t r)

-- as many marks as places
positive : (k : ℕ) → 1 ≤ k → (j : ℕ) × (k ≡ suc j)
positive zero h = absurd (omega (arith, h))
positive (suc j) h = (j, refl)

-- the runs as told are alike, with just the places left open that are marked, and the messages are equal where all fits
abbrev Applies : List Mark → List Event → List Answer → List (Option ℕ) → List Event → List Answer → List (Option ℕ) → List Told → List Told → Type 0
Applies ms es as' vs fs bs ws xs ys =
    (k : Alike xs ys) × (left_open k ≡ opens ms)
    × ((d : Display) → Stands d → AnswersAgree k → Fitting k d → AgreeWhere (shown_kept ms) (messages_from d es as') (messages_from d fs bs))

-- in front of these, accepted texts in another order
apply_reordered : (k : ℕ) (ms : List Mark) (es fs : List Event) (as' bs : List Answer) (vs ws : List (Option ℕ)) → 1 ≤ k → Speeds vs es ws fs → Within k es as' fs bs → Texts (take k es) → Texts (take k fs) →
    Accepted (take k as') → Accepted (take k bs) → Shuffle (take k es) (take k fs) →
    Applies ms (drop k es) (drop k as') (drop k vs) (drop k fs) (drop k bs) (drop k ws) (told (drop k es) (drop k as') (drop k vs)) (told (drop k fs) (drop k bs) (drop k ws)) →
    Applies (stretch_marks k ++ ms) es as' vs fs bs ws (told es as' vs) (told fs bs ws)
apply_reordered k ms es fs as' bs vs ws l n h t u a b s r =
    let v : k ≤ length vs = omega (arith, h.0, n.0) in
    let w : k ≤ length ws = omega (arith, h.2, n.1) in
    let e = length-take-le k es h.0 in
    let f = length-take-le k fs h.2 in
    let ps = told (take k es) (take k as') (take k vs) in
    let qs = told (take k fs) (take k bs) (take k ws) in
    let p = told-calls (take k es) (take k as') (take k vs) (length-take-le k as' h.1 ∙ sym e) (length-take-le k vs v ∙ sym e) in
    let q = told-calls (take k fs) (take k bs) (take k ws) (length-take-le k bs h.3 ∙ sym f) (length-take-le k ws w ∙ sym f) in
    let m : length ps ≡ k = sym (count_calls ps) ∙ ap length p ∙ e in
    subst₂ (λ xs ys. Applies (stretch_marks k ++ ms) es as' vs fs bs ws xs ys)
    (sym (told-parts k es as' vs h.0 h.1 n.0)) (sym (told-parts k fs bs ws h.2 h.3 n.1)) (
      stretches ps qs (told-accepted (take k es) (take k as') (take k vs) t a) (told-accepted (take k fs) (take k bs) (take k ws) u b) (subst₂ Shuffle (sym p) (sym q) s) r.0,
      ap₂ (λ j l. replicate j true ++ l) m r.1 ∙ sym (opens-stretch k ms),
      λ d o g z.
          let fits = subst (λ xs. Fits xs d) p z.0 in
          let law = stretch_law d (take k es) (take k fs) o.0 o.1 t s fits in
          let one = after_calls_texts (take k es) (take k as') d t a (length-take-le k as' h.1 ∙ sym e) in
          let other = after_calls_texts (take k fs) (take k bs) d u b (length-take-le k bs h.3 ∙ sym f) in
          let same : after_calls (take k fs) (take k bs) d ≡ after_calls (take k es) (take k as') d = other ∙ sym law.1 ∙ sym one in
          let behind : Stands (after_calls (take k es) (take k as') d) = (rising_after_calls (take k es) (take k as') d o.0, differ_after_calls (take k es) (take k as') d o.1) in
          let fitting = subst (Fitting r.0) (ap (λ xs. after_texts xs d) p ∙ sym one) z.1 in
          let rest = r.2 (after_calls (take k es) (take k as') d) behind g fitting in
          let j = positive k l in
          subst (λ i. Within i es as' fs bs → top (after_calls (take i es) (take i as') d).lines ≡ top (after_calls (take i fs) (take i bs) d).lines →
          AgreeWhere (shown_kept ms) (messages_from (after_calls (take i es) (take i as') d) (drop i es) (drop i as')) (messages_from (after_calls (take i fs) (take i bs) d) (drop i fs) (drop i bs)) →
          AgreeWhere (shown_kept (stretch_marks i ++ ms)) (messages_from d es as') (messages_from d fs bs))
          (sym j.1) (stretch_shown j.0 ms es fs as' bs d d) h (ap (λ (x : Display). top x.lines) (sym same))
          (subst (λ (x : Display). AgreeWhere (shown_kept ms) (messages_from (after_calls (take k es) (take k as') d) (drop k es) (drop k as')) (messages_from x (drop k fs) (drop k bs))) (sym same) rest),
    )
  where
    count_calls : (xs : List Told) → length (calls_of xs) ≡ length xs
    count_calls [] = refl
    count_calls (x ∷ xs) = ap (λ i. suc i) (count_calls xs)

-- in front of these, one call of each that are the same up to the block
apply_one : (ms : List Mark) (e f : Event) (es fs : List Event) (a b : Answer) (as' bs : List Answer) (v w : Option ℕ) (vs ws : List (Option ℕ)) → unblocked e ≡ unblocked f →
    ((is_cycle e && is_cycle f) ≡ true → v ≡ w) → Applies ms es as' vs fs bs ws (told es as' vs) (told fs bs ws) →
    Applies (Compared ∷ ms) (e ∷ es) (a ∷ as') (v ∷ vs) (f ∷ fs) (b ∷ bs) (w ∷ ws) (told (e ∷ es) (a ∷ as') (v ∷ vs)) (told (f ∷ fs) (b ∷ bs) (w ∷ ws))
apply_one ms e f es fs a b as' bs v w vs ws c s r =
    ⊎_elim
    (λ (h : is_cycle e ≡ true).
    let g = sym (same-cycles e f c) ∙ h in
    (cycles h g (s (subst₂ (λ x y. (x && y) ≡ true) (sym h) (sym g) refl)) r.0, ap (λ l. false ∷ l) r.1, λ d o g' z. shown d o g'.0 (λ o'. r.2 (after_call e a d) o' g'.1 z)))
    (λ h. (other h (same-call e f c h) r.0, ap (λ l. false ∷ l) r.1, λ d o g' z. shown d o g'.0 (λ o'. r.2 (after_call e a d) o' g'.1 z)))
    (cases_Bool (is_cycle e))
  where
    shown : (d : Display) → Stands d → a ≡ b → (Stands (after_call e a d) → AgreeWhere (shown_kept ms) (messages_from (after_call e a d) es as') (messages_from (after_call e a d) fs bs)) →
        AgreeWhere (shown_kept (Compared ∷ ms)) (messages_from d (e ∷ es) (a ∷ as')) (messages_from d (f ∷ fs) (b ∷ bs))
    shown d o g rest =
        let same : after_call e a d ≡ after_call f b d = same_behind e f a d c ∙ ap (λ x. after_call f x d) g in (
          λ _. ap (λ (x : Display). top x.lines) same,
          subst (λ (x : Display). AgreeWhere (shown_kept ms) (messages_from (after_call e a d) es as') (messages_from x fs bs)) same (rest (rising_after e a d o.0, differ_after e a d o.1)),
        )

-- front by front
pub walked_applies : {s : Bool} {ms : List Mark} {es fs : List Event} {as' bs : List Answer} → Walked s ms es as' fs bs → s ≡ true → LawApplies ms es as' fs bs
walked_applies ended e vs ws n z = (nothing, refl, λ d o g f. tt)
walked_applies (more {ms = ms} (same {e} {f} {es} {fs} {a} {b} {as'} {bs} q) w) is [] ws n z = absurd (omega (arith, n.0))
walked_applies (more {ms = ms} (same {e} {f} {es} {fs} {a} {b} {as'} {bs} q) w) is (v ∷ vs) [] n z = absurd (omega (arith, n.1))
walked_applies (more {ms = ms} (same {e} {f} {es} {fs} {a} {b} {as'} {bs} q) w) is (v ∷ vs) (u ∷ us) n z =
    apply_one ms e f es fs a b as' bs v u vs us q z.0 (walked_applies w is vs us (omega (arith, n.0), omega (arith, n.1)) z.1)
walked_applies (more (other_call n t) w) e vs ws m z = absurd (false≢true e)
walked_applies (more {ms = ms} (stretch k {es} {fs} {as'} {bs} l h n s) w) e vs ws m z =
    apply_reordered k ms es fs as' bs vs ws (omega (arith, l)) m h.0 h.1 h.3 h.2 h.4 s
    (walked_applies w e (drop k vs) (drop k ws) (behind k vs es m.0, behind k ws fs m.1) (samples_behind k es fs vs ws z))
  where
    behind : (i : ℕ) (xs : List (Option ℕ)) (ys : List Event) → length xs ≡ length ys → length (drop i xs) ≡ length (drop i ys)
    behind zero xs ys p = p
    behind (suc i) [] [] p = refl
    behind (suc i) [] (y ∷ ys) p = absurd (omega (arith, p))
    behind (suc i) (x ∷ xs) [] p = absurd (omega (arith, p))
    behind (suc i) (x ∷ xs) (y ∷ ys) p = behind i xs ys (omega (arith, p))
walked_applies (more (apart k l h t n) w) e vs ws m z = absurd (false≢true e)
