-- Where the law finds two runs alike, so does the walk, and no derivation leaves a place open but those that are marked.
use Rattle.std.proofs.Common.{◌≡◌, ℕ, zero, suc, ◌+◌, ◌<◌, Bool, true, false, cond, not, ◌&&◌, List, [], ◌∷◌, ◌++◌, map, length, take, drop, replicate, is_some, None, Option, sym, refl, ap, ◌∙◌, subst, ap₂, subst₂, ⊎_elim, arith}
use Rattle.std.proofs.lemmas.Bool.{true≢false, false≢true, and_parts, and_from, cases_Bool}
use Rattle.cab_unit.specs.Events.{Event, Event.cycle, Event.order, Event.press, Event.take as taken, is_cycle, is_text, unblocked}
use Rattle.driver_desk.specs.Answers.{is_accepted}
use Rattle.driver_desk.specs.declared.answer.Answer.{Answer}
use Rattle.ordering.specs.Shuffle.{Shuffle}
use Rattle.bench.specs.Likeness.{Told, told, calls_of, AcceptedTexts, Alike, Alike.ended as nothing, Alike.cycles, Alike.other as equals, Alike.texts as stretches, left_open}
use Rattle.compare.specs.Compared.{AgreeWhere, sampled, Covers}
use Rattle.compare.specs.Decided.{Speeds, LawFound}
use Rattle.compare.specs.Marks.{opens}
use Rattle.compare.specs.declared.marks.Mark.{Mark}
use Rattle.compare.specs.Walked.{Loose, text_next, Front.same, Front.other, Front.stretch, Front.apart, Walked, Walked.ended, Walked.more, Compared, Compared.whole, Compared.cut}
use Rattle.compare.proofs.Asking.{same-call}
use Rattle.compare.proofs.Applying.{text_no_cycle, told-calls, opens-stretch}
use Rattle.compare.proofs.Counts.{tally-parts, SameCounts, counts_shuffles}
use Rattle.compare.proofs.Events.{same_event, events_decide}
use Rattle.compare.proofs.Shuffling.{tally, same-tally, shuffle_length}

-- both are texts that were accepted
abbrev loose : Told → Told → Bool
loose x y = (is_text x.call && is_accepted x.answer) && (is_text y.call && is_accepted y.answer)

-- what the law asks, place by place: P and Q came in the run of accepted texts so far
abbrev Found : List Event → List Event → List Told → List Told → Type 0
Found P Q [] [] = SameCounts P Q
Found P Q [] (y ∷ ys) = ⊥
Found P Q (x ∷ xs) [] = ⊥
Found P Q (x ∷ xs) (y ∷ ys) =
    (loose x y ≡ true → Found (x.call ∷ P) (y.call ∷ Q) xs ys)
    × (loose x y ≡ false → SameCounts P Q × (unblocked x.call ≡ unblocked y.call) × Found [] [] xs ys)

-- a place where some derivation compares the answers is not open
abbrev Compares : List Event → List Event → List Bool → List Told → List Told → Type 0
Compares P Q [] xs ys = Unit {0}
Compares P Q (o ∷ os) [] ys = Unit {0}
Compares P Q (o ∷ os) (x ∷ xs) [] = Unit {0}
Compares P Q (o ∷ os) (x ∷ xs) (y ∷ ys) =
    (loose x y ≡ true → (SameCounts P Q → x.call ≡ y.call → o ≡ false) × Compares (x.call ∷ P) (y.call ∷ Q) os xs ys)
    × (loose x y ≡ false → (o ≡ false) × Compares [] [] os xs ys)

pub none_accepted : (a : Answer) → a.outcome ≡ None → is_accepted a ≡ true
none_accepted a h = ap (λ o. not (is_some o)) h

more_counts : (e f : Event) (P Q : List Event) → e ≡ f → SameCounts P Q → SameCounts (e ∷ P) (f ∷ Q)
more_counts e f P Q h c p = ap₂ (λ a n. cond (p a) 1 0 + n) h (c p)

-- the first of a stretch goes into the account
moved : (p q : Told) (ps qs : List Told) (P Q : List Event) → SameCounts (calls_of (p ∷ ps) ++ P) (calls_of (q ∷ qs) ++ Q) → SameCounts (calls_of ps ++ p.call ∷ P) (calls_of qs ++ q.call ∷ Q)
moved p q ps qs P Q c t =
    let d = c t in
    let e = tally-parts t (calls_of ps) P in
    let f = tally-parts t (calls_of qs) Q in
    let e' = tally-parts t (calls_of ps) (p.call ∷ P) in
    let f' = tally-parts t (calls_of qs) (q.call ∷ Q) in
    omega (arith, d, e, f, e', f')

-- a stretch goes into the account whole
over_stretch : (W : List Event → List Event → List Told → List Told → Type 0) →
    ((x y : Told) (P Q : List Event) (xs ys : List Told) → loose x y ≡ true → W (x.call ∷ P) (y.call ∷ Q) xs ys → W P Q (x ∷ xs) (y ∷ ys)) →
    (ps qs xs ys : List Told) → AcceptedTexts ps → AcceptedTexts qs → length (calls_of ps) ≡ length (calls_of qs) → (P Q : List Event) →
    ((R S : List Event) → SameCounts R S → W R S xs ys) → SameCounts (calls_of ps ++ P) (calls_of qs ++ Q) → W P Q (ps ++ xs) (qs ++ ys)
over_stretch W step [] [] xs ys a b n P Q rest c = rest P Q c
over_stretch W step [] (q ∷ qs) xs ys a b n P Q rest c = absurd (omega (arith, n))
over_stretch W step (p ∷ ps) [] xs ys a b n P Q rest c = absurd (omega (arith, n))
over_stretch W step (p ∷ ps) (q ∷ qs) xs ys a b n P Q rest c =
    let both = and_from _ _ (and_from _ _ a.0.0 (none_accepted p.answer a.0.1)) (and_from _ _ b.0.0 (none_accepted q.answer b.0.1)) in
    step p q P Q (ps ++ xs) (qs ++ ys) both (over_stretch W step ps qs xs ys a.1 b.1 (omega (arith, n)) (p.call ∷ P) (q.call ∷ Q) rest (moved p q ps qs P Q c))

joined : (ps qs : List Told) (P Q : List Event) → Shuffle (calls_of ps) (calls_of qs) → SameCounts P Q → SameCounts (calls_of ps ++ P) (calls_of qs ++ Q)
joined ps qs P Q w c t =
    let d = c t in
    let e = tally-parts t (calls_of ps) P in
    let f = tally-parts t (calls_of qs) Q in
    let g = same-tally t w in
    omega (arith, d, e, f, g)

same_blocked : (e f : Event) → is_cycle e ≡ true → is_cycle f ≡ true → unblocked e ≡ unblocked f
same_blocked (cycle b) (cycle c) p q = refl
same_blocked (cycle b) (order o) p q = absurd (false≢true q)
same_blocked (cycle b) (press n) p q = absurd (false≢true q)
same_blocked (cycle b) (taken t) p q = absurd (false≢true q)
same_blocked (order o) f p q = absurd (false≢true p)
same_blocked (press n) f p q = absurd (false≢true p)
same_blocked (taken t) f p q = absurd (false≢true p)

-- a cycle is no text
cycle-loose : (x y : Told) → is_cycle x.call ≡ true → loose x y ≡ true → ⊥
cycle-loose x y p h =
    let l = and_parts (is_text x.call && is_accepted x.answer) _ h in
    let t = and_parts (is_text x.call) (is_accepted x.answer) l.0 in
    true≢false (sym p ∙ text_no_cycle x.call t.0)

complete : {xs ys : List Told} → Alike xs ys → (P Q : List Event) → SameCounts P Q → Found P Q xs ys
complete nothing P Q c = c
complete (cycles {x} {y} p q v k) P Q c = (λ h. absurd (cycle-loose x y p h), λ h. (c, same_blocked x.call y.call p q, complete k [] [] (λ t. refl)))
complete (equals {x} {y} p q k) P Q c =
    (λ h. complete k (x.call ∷ P) (y.call ∷ Q) (more_counts x.call y.call P Q q c), λ h. (c, ap unblocked q, complete k [] [] (λ t. refl)))
complete (stretches ps qs {xs} {ys} a b w k) P Q c =
    over_stretch Found (λ x y R S us vs h r. (λ _. r, λ g. absurd (true≢false (sym h ∙ g)))) ps qs xs ys a b (shuffle_length w) P Q (complete k) (joined ps qs P Q w c)

-- an open place is left open
open_there : (o p : Bool) → o ≡ false → o ≡ true → p ≡ true
open_there o p f t = absurd (true≢false (sym t ∙ f))

both_loose : (p q : Told) → (is_text p.call ≡ true) × (p.answer.outcome ≡ None) → (is_text q.call ≡ true) × (q.answer.outcome ≡ None) → loose p q ≡ true
both_loose p q a b = and_from _ _ (and_from _ _ a.0 (none_accepted p.answer a.1)) (and_from _ _ b.0 (none_accepted q.answer b.1))

-- a stretch leaves all its places open
covers_stretch : (l : List Bool) (ps qs xs ys : List Told) → AcceptedTexts ps → AcceptedTexts qs → length (calls_of ps) ≡ length (calls_of qs) → (P Q : List Event) (os : List Bool) → Compares P Q os (ps ++ xs) (qs ++ ys) →
    ((R S : List Event) (os' : List Bool) → SameCounts R S → Compares R S os' xs ys → Covers os' l) → SameCounts (calls_of ps ++ P) (calls_of qs ++ Q) → Covers os (replicate (length ps) true ++ l)
covers_stretch l [] [] xs ys a b n P Q os o rest c = rest P Q os c o
covers_stretch l [] (q ∷ qs) xs ys a b n P Q os o rest c = absurd (omega (arith, n))
covers_stretch l (p ∷ ps) [] xs ys a b n P Q os o rest c = absurd (omega (arith, n))
covers_stretch l (p ∷ ps) (q ∷ qs) xs ys a b n P Q [] o rest c = tt
covers_stretch l (p ∷ ps) (q ∷ qs) xs ys a b n P Q (b' ∷ os) o rest c =
    (λ _. refl, covers_stretch l ps qs xs ys a.1 b.1 (omega (arith, n)) (p.call ∷ P) (q.call ∷ Q) os (o.0 (both_loose p q a.0 b.0)).1 rest (moved p q ps qs P Q c))

every : {xs ys : List Told} (k : Alike xs ys) (P Q : List Event) (os : List Bool) → SameCounts P Q → Compares P Q os xs ys → Covers os (left_open k)
every nothing P Q [] c o = tt
every nothing P Q (b ∷ os) c o = tt
every (cycles {x} {y} p q v k) P Q [] c o = tt
every (cycles {x} {y} p q v k) P Q (b ∷ os) c o =
    ⊎_elim
    (λ h. absurd (cycle-loose x y p h))
    (λ h. let r = o.1 h in (open_there b false r.0, every k [] [] os (λ t. refl) r.1))
    (cases_Bool (loose x y))
every (equals {x} {y} p q k) P Q [] c o = tt
every (equals {x} {y} p q k) P Q (b ∷ os) c o =
    ⊎_elim
    (λ h. let r = o.0 h in (open_there b false (r.0 c q), every k (x.call ∷ P) (y.call ∷ Q) os (more_counts x.call y.call P Q q c) r.1))
    (λ h. let r = o.1 h in (open_there b false r.0, every k [] [] os (λ t. refl) r.1))
    (cases_Bool (loose x y))
every (stretches ps qs {xs} {ys} a b w k) P Q os c o =
    covers_stretch (left_open k) ps qs xs ys a b (shuffle_length w) P Q os o (λ R S os' d r. every k R S os' d r) (joined ps qs P Q w c)

-- R has ks beside P
abbrev Beside : List Event → List Event → List Event → Type 0
Beside R ks P = (p : Event → Bool) → tally p R ≡ tally p ks + tally p P

shuffles : (P Q : List Event) → SameCounts P Q → Shuffle P Q
shuffles P Q c = counts_shuffles same_event events_decide P Q c

beside-shuffle : (P Q R S ks ls : List Event) → SameCounts P Q → Beside R ks P → Beside S ls Q → SameCounts R S → Shuffle ks ls
beside-shuffle P Q R S ks ls c r s d = shuffles ks ls (λ p. let c' = c p in let r' = r p in let s' = s p in let d' = d p in omega (arith, c', r', s', d'))

shuffle-beside : (P Q R S ks ls : List Event) → SameCounts P Q → Beside R ks P → Beside S ls Q → Shuffle ks ls → SameCounts R S
shuffle-beside P Q R S ks ls c r s w p = let c' = c p in let r' = r p in let s' = s p in let w' = same-tally p w in omega (arith, c', r', s', w')

beside-more : (e : Event) (R ks P : List Event) → Beside R ks (e ∷ P) → Beside R (e ∷ ks) P
beside-more e R ks P r p = let r' = r p in omega (arith, r')

-- behind accepted texts
through : (k : ℕ) (es fs : List Event) (as' bs : List Answer) (vs ws : List (Option ℕ)) (P Q : List Event) → Speeds vs es ws fs → Loose k es as' fs bs → Found P Q (told es as' vs) (told fs bs ws) →
    (R : List Event) × (S : List Event) × Beside R (take k es) P × Beside S (take k fs) Q × Found R S (told (drop k es) (drop k as') (drop k vs)) (told (drop k fs) (drop k bs) (drop k ws)) × Speeds (drop k vs) (drop k es) (drop k ws) (drop k fs)
through zero es fs as' bs vs ws P Q n l g = (P, Q, λ p. omega arith, λ p. omega arith, g, n)
through (suc k) [] fs as' bs vs ws P Q n l g = absurd (omega (arith, l.0.0))
through (suc k) (e ∷ es) fs [] bs vs ws P Q n l g = absurd (omega (arith, l.0.1))
through (suc k) (e ∷ es) [] (a ∷ as') bs vs ws P Q n l g = absurd (omega (arith, l.0.2))
through (suc k) (e ∷ es) (f ∷ fs) (a ∷ as') [] vs ws P Q n l g = absurd (omega (arith, l.0.3))
through (suc k) (e ∷ es) (f ∷ fs) (a ∷ as') (b ∷ bs) [] ws P Q n l g = absurd (omega (arith, n.0))
through (suc k) (e ∷ es) (f ∷ fs) (a ∷ as') (b ∷ bs) (v ∷ vs) [] P Q n l g = absurd (omega (arith, n.1))
through (suc k) (e ∷ es) (f ∷ fs) (a ∷ as') (b ∷ bs) (v ∷ vs) (w ∷ ws) P Q n l g =
    let both = and_from _ _ (and_from _ _ l.1.0 (none_accepted a l.2.0)) (and_from _ _ l.3.0 (none_accepted b l.4.0)) in
    let i = through k es fs as' bs vs ws (e ∷ P) (f ∷ Q) (omega (arith, n.0), omega (arith, n.1)) ((omega (arith, l.0.0), omega (arith, l.0.1), omega (arith, l.0.2), omega (arith, l.0.3)), l.1.1, l.2.1, l.3.1, l.4.1) (g.0 both) in
    (i.0, i.1, beside-more e i.0 (take k es) P i.2, beside-more f i.1 (take k fs) Q i.3, i.4, i.5)

-- at the end of a run of accepted texts the same came
run_over : (es fs : List Event) (as' bs : List Answer) (vs ws : List (Option ℕ)) (P Q : List Event) → Speeds vs es ws fs → (text_next es as' && text_next fs bs) ≡ false → Found P Q (told es as' vs) (told fs bs ws) → SameCounts P Q
run_over [] [] as' bs vs ws P Q n t g = g
run_over [] (f ∷ fs) as' [] vs ws P Q n t g = g
run_over [] (f ∷ fs) as' (b ∷ bs) vs [] P Q n t g = absurd (omega (arith, n.1))
run_over [] (f ∷ fs) as' (b ∷ bs) vs (w ∷ ws) P Q n t g = absurd g
run_over (e ∷ es) [] [] bs vs ws P Q n t g = g
run_over (e ∷ es) (f ∷ fs) [] [] vs ws P Q n t g = g
run_over (e ∷ es) (f ∷ fs) [] (b ∷ bs) vs [] P Q n t g = absurd (omega (arith, n.1))
run_over (e ∷ es) (f ∷ fs) [] (b ∷ bs) vs (w ∷ ws) P Q n t g = absurd g
run_over (e ∷ es) fs (a ∷ as') bs [] ws P Q n t g = absurd (omega (arith, n.0))
run_over (e ∷ es) [] (a ∷ as') bs (v ∷ vs) ws P Q n t g = absurd g
run_over (e ∷ es) (f ∷ fs) (a ∷ as') [] (v ∷ vs) ws P Q n t g = absurd g
run_over (e ∷ es) (f ∷ fs) (a ∷ as') (b ∷ bs) (v ∷ vs) [] P Q n t g = absurd (omega (arith, n.1))
run_over (e ∷ es) (f ∷ fs) (a ∷ as') (b ∷ bs) (v ∷ vs) (w ∷ ws) P Q n t g = (g.1 t).0

walked_found : {s : Bool} {ms : List Mark} {es fs : List Event} {as' bs : List Answer} → Walked s ms es as' fs bs → (vs ws : List (Option ℕ)) (P Q : List Event) → Speeds vs es ws fs → SameCounts P Q →
    Found P Q (told es as' vs) (told fs bs ws) → s ≡ true
walked_found ended vs ws P Q n c g = refl
walked_found (more (same q) w) [] us P Q n c g = absurd (omega (arith, n.0))
walked_found (more (same q) w) (v ∷ vs) [] P Q n c g = absurd (omega (arith, n.1))
walked_found (more (same {e} {f} {es} {fs} {a} {b} {as'} {bs} q) w) (v ∷ vs) (u ∷ us) P Q n c g =
    let m : Speeds vs es us fs = (omega (arith, n.0), omega (arith, n.1)) in
    ⊎_elim
    (λ (h : ((is_text e && is_accepted a) && (is_text f && is_accepted b)) ≡ true).
    let l = and_parts (is_text e && is_accepted a) _ h in
    let t = and_parts (is_text e) (is_accepted a) l.0 in
    walked_found w vs us (e ∷ P) (f ∷ Q) m (more_counts e f P Q (same-call e f q (text_no_cycle e t.0)) c) (g.0 h))
    (λ h. walked_found w vs us [] [] m (λ t. refl) (g.1 h).2)
    (cases_Bool ((is_text e && is_accepted a) && (is_text f && is_accepted b)))
walked_found (more (other d t) w) [] us P Q n c g = absurd (omega (arith, n.0))
walked_found (more (other d t) w) (v ∷ vs) [] P Q n c g = absurd (omega (arith, n.1))
walked_found (more (other d t) w) (v ∷ vs) (u ∷ us) P Q n c g = absurd (d (g.1 t).1)
walked_found (more (stretch k {es} {fs} {as'} {bs} l h d s) w) vs us P Q n c g =
    let i = through k es fs as' bs vs us P Q n h g in
    walked_found w (drop k vs) (drop k us) i.0 i.1 i.5 (shuffle-beside P Q i.0 i.1 (take k es) (take k fs) c i.2 i.3 s) i.4
walked_found (more (apart k {es} {fs} {as'} {bs} l h t d) w) vs us P Q n c g =
    let i = through k es fs as' bs vs us P Q n h g in
    let z = run_over (drop k es) (drop k fs) (drop k as') (drop k bs) (drop k vs) (drop k us) i.0 i.1 i.5 t i.4 in
    absurd (d k l (omega arith) (beside-shuffle P Q i.0 i.1 (take k es) (take k fs) c i.2 i.3 z))

-- in a stretch no derivation compares answers
in_stretch : (k : ℕ) (os : List Bool) (es fs : List Event) (as' bs : List Answer) (vs ws : List (Option ℕ)) (P Q : List Event) → Loose k es as' fs bs →
    ((j : ℕ) → j < k → (R S R' S' : List Event) → Beside R (take j es) P → Beside S (take j fs) Q → SameCounts R S →
    Beside R' (take (suc j) es) P → Beside S' (take (suc j) fs) Q → SameCounts R' S' → ⊥) →
    ((R S : List Event) → Beside R (take k es) P → Beside S (take k fs) Q → Compares R S os (told (drop k es) (drop k as') (drop k vs)) (told (drop k fs) (drop k bs) (drop k ws))) →
    Compares P Q (replicate k true ++ os) (told es as' vs) (told fs bs ws)
in_stretch zero os es fs as' bs vs ws P Q l bad rest = rest P Q (λ p. omega arith) (λ p. omega arith)
in_stretch (suc k) os [] fs as' bs vs ws P Q l bad rest = absurd (omega (arith, l.0.0))
in_stretch (suc k) os (e ∷ es) fs [] bs vs ws P Q l bad rest = absurd (omega (arith, l.0.1))
in_stretch (suc k) os (e ∷ es) [] (a ∷ as') bs vs ws P Q l bad rest = absurd (omega (arith, l.0.2))
in_stretch (suc k) os (e ∷ es) (f ∷ fs) (a ∷ as') [] vs ws P Q l bad rest = absurd (omega (arith, l.0.3))
in_stretch (suc k) os (e ∷ es) (f ∷ fs) (a ∷ as') (b ∷ bs) [] ws P Q l bad rest = tt
in_stretch (suc k) os (e ∷ es) (f ∷ fs) (a ∷ as') (b ∷ bs) (v ∷ vs) [] P Q l bad rest = tt
in_stretch (suc k) os (e ∷ es) (f ∷ fs) (a ∷ as') (b ∷ bs) (v ∷ vs) (w ∷ ws) P Q l bad rest =
    let both = and_from _ _ (and_from _ _ l.1.0 (none_accepted a l.2.0)) (and_from _ _ l.3.0 (none_accepted b l.4.0)) in
    let i = in_stretch k os es fs as' bs vs ws (e ∷ P) (f ∷ Q) ((omega (arith, l.0.0), omega (arith, l.0.1), omega (arith, l.0.2), omega (arith, l.0.3)), l.1.1, l.2.1, l.3.1, l.4.1)
    (λ j h R S R' S' r s d r' s' d'. bad (suc j) (omega (arith, h)) R S R' S' (beside-more e R (take j es) P r) (beside-more f S (take j fs) Q s) d (beside-more e R' (take (suc j) es) P r') (beside-more f S' (take (suc j) fs) Q s') d')
    (λ R S r s. rest R S (beside-more e R (take k es) P r) (beside-more f S (take k fs) Q s)) in (
      λ _. (λ c h. absurd (bad zero (omega arith) P Q (e ∷ P) (f ∷ Q) (λ p. omega arith) (λ p. omega arith) c (λ p. omega arith) (λ p. omega arith) (more_counts e f P Q h c)), i),
      λ g. absurd (true≢false (sym both ∙ g)),
    )

walked_compares : {s : Bool} {ms : List Mark} {es fs : List Event} {as' bs : List Answer} → Walked s ms es as' fs bs → s ≡ true → (vs ws : List (Option ℕ)) (P Q : List Event) → SameCounts P Q →
    Compares P Q (opens ms) (told es as' vs) (told fs bs ws)
walked_compares ended z vs ws P Q c = tt
walked_compares (more (same q) w) z [] us P Q c = tt
walked_compares (more (same q) w) z (v ∷ vs) [] P Q c = tt
walked_compares (more (same {e} {f} {es} {fs} {a} {b} {as'} {bs} q) w) z (v ∷ vs) (u ∷ us) P Q c = (
  λ h.
      let l = and_parts (is_text e && is_accepted a) _ h in
      let t = and_parts (is_text e) (is_accepted a) l.0 in
      (λ _ _. refl, walked_compares w z vs us (e ∷ P) (f ∷ Q) (more_counts e f P Q (same-call e f q (text_no_cycle e t.0)) c)),
  λ h. (refl, walked_compares w z vs us [] [] (λ t. refl)),
)
walked_compares (more (other n t) w) z vs us P Q c = absurd (false≢true z)
walked_compares (more {ms = ms} (stretch k {es} {fs} {as'} {bs} l h n s) w) z vs us P Q c =
    subst (λ os. Compares P Q os (told es as' vs) (told fs bs us)) (sym (opens-stretch k ms))
    (in_stretch k (opens ms) es fs as' bs vs us P Q h
    (λ j m R S R' S' r s₀ d r' s' d'. refute j m R S R' S' r s₀ d r' s' d')
    (λ R S r s₀. walked_compares w z (drop k vs) (drop k us) R S (shuffle-beside P Q R S (take k es) (take k fs) c r s₀ s)))
  where
    refute : (j : ℕ) → j < k → (R S R' S' : List Event) → Beside R (take j es) P → Beside S (take j fs) Q → SameCounts R S →
        Beside R' (take (suc j) es) P → Beside S' (take (suc j) fs) Q → SameCounts R' S' → ⊥
    refute zero m R S R' S' r s₀ d r' s' d' = n 1 (omega arith) l (beside-shuffle P Q R' S' (take 1 es) (take 1 fs) c r' s' d')
    refute (suc j) m R S R' S' r s₀ d r' s' d' = n (suc j) (omega arith) m (beside-shuffle P Q R S (take (suc j) es) (take (suc j) fs) c r s₀ d)
walked_compares (more (apart k l h t n) w) z vs us P Q c = absurd (false≢true z)

-- the samples of speed of two runs as they are told
abbrev speeds_of : List Told → List (Option ℕ)
speeds_of xs = map (λ (x : Told). x.speed) xs

text_unsampled : (x y : Told) → is_text x.call ≡ true → (is_cycle x.call && is_cycle y.call) ≡ true → x.speed ≡ y.speed
text_unsampled x y t h = absurd (true≢false (sym (and_parts (is_cycle x.call) (is_cycle y.call) h).0 ∙ text_no_cycle x.call t))

samples_over : (ps qs xs ys : List Told) → AcceptedTexts ps → length (calls_of ps) ≡ length (calls_of qs) → AgreeWhere (sampled (calls_of xs) (calls_of ys)) (speeds_of xs) (speeds_of ys) →
    AgreeWhere (sampled (calls_of (ps ++ xs)) (calls_of (qs ++ ys))) (speeds_of (ps ++ xs)) (speeds_of (qs ++ ys))
samples_over [] [] xs ys a n r = r
samples_over [] (q ∷ qs) xs ys a n r = absurd (omega (arith, n))
samples_over (p ∷ ps) [] xs ys a n r = absurd (omega (arith, n))
samples_over (p ∷ ps) (q ∷ qs) xs ys a n r = (text_unsampled p q a.0.0, samples_over ps qs xs ys a.1 (omega (arith, n)) r)

alike_samples : {xs ys : List Told} → Alike xs ys → AgreeWhere (sampled (calls_of xs) (calls_of ys)) (speeds_of xs) (speeds_of ys)
alike_samples nothing = tt
alike_samples (cycles p q v k) = (λ _. v, alike_samples k)
alike_samples (equals {x} {y} p q k) = (λ h. absurd (true≢false (sym (and_parts (is_cycle x.call) (is_cycle y.call) h).0 ∙ p)), alike_samples k)
alike_samples (stretches ps qs {xs} {ys} a b w k) = samples_over ps qs xs ys a (shuffle_length w) (alike_samples k)

told-speeds : (es : List Event) (as' : List Answer) (vs : List (Option ℕ)) → length as' ≡ length es → length vs ≡ length es → speeds_of (told es as' vs) ≡ vs
told-speeds [] as' [] h n = refl
told-speeds [] as' (v ∷ vs) h n = absurd (omega (arith, n))
told-speeds (e ∷ es) [] vs h n = absurd (omega (arith, h))
told-speeds (e ∷ es) (a ∷ as') [] h n = absurd (omega (arith, n))
told-speeds (e ∷ es) (a ∷ as') (v ∷ vs) h n = ap (λ l. v ∷ l) (told-speeds es as' vs (omega (arith, h)) (omega (arith, n)))

length_parts : (ps xs : List Told) → length (ps ++ xs) ≡ length (calls_of ps) + length xs
length_parts [] xs = omega arith
length_parts (p ∷ ps) xs = let i = length_parts ps xs in omega (arith, i)

alike_length : {xs ys : List Told} → Alike xs ys → length xs ≡ length ys
alike_length nothing = refl
alike_length (cycles p q w k) = ap (λ n. suc n) (alike_length k)
alike_length (equals p q k) = ap (λ n. suc n) (alike_length k)
alike_length (stretches ps qs {xs} {ys} a b w k) =
    let i = alike_length k in
    let n = shuffle_length w in
    let l = length_parts ps xs in
    let m = length_parts qs ys in
    omega (arith, i, n, l, m)

told_length : (es : List Event) (as' : List Answer) (vs : List (Option ℕ)) → length as' ≡ length es → length vs ≡ length es → length (told es as' vs) ≡ length es
told_length [] as' vs h n = refl
told_length (e ∷ es) [] vs h n = absurd (omega (arith, h))
told_length (e ∷ es) (a ∷ as') [] h n = absurd (omega (arith, n))
told_length (e ∷ es) (a ∷ as') (v ∷ vs) h n = ap (λ i. suc i) (told_length es as' vs (omega (arith, h)) (omega (arith, n)))

-- what is compared and what the law finds
pub compared_found : {s : Bool} {ms : List Mark} {es fs : List Event} {as' bs : List Answer} → Compared s ms es as' fs bs → LawFound s ms es as' fs bs
compared_found (whole {es = es} {fs} {as'} {bs} l w) vs ws n p q k =
    let s = walked_found w vs ws [] [] n (λ t. refl) (complete k [] [] (λ t. refl)) in
    let e = told-calls es as' vs p n.0 in
    let f = told-calls fs bs ws q n.1 in
    let samples = subst₂ (λ xs ys. AgreeWhere (sampled xs ys) (speeds_of (told es as' vs)) (speeds_of (told fs bs ws))) e f (alike_samples k) in (
      s,
      subst₂ (λ us xs. AgreeWhere (sampled es fs) us xs) (told-speeds es as' vs p n.0) (told-speeds fs bs ws q n.1) samples,
      every k [] [] _ (λ t. refl) (walked_compares w s vs ws [] [] (λ t. refl)),
    )
compared_found (cut m {es = es} {fs} {as'} {bs} l e w) vs ws n p q k =
    let i = alike_length k in
    let x = told_length es as' vs p n.0 in
    let y = told_length fs bs ws q n.1 in
    let same : length fs ≡ length es = omega (arith, i, x, y) in
    absurd (l (same, p, q ∙ same))
