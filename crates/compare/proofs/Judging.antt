-- What is found of two runs, and what that says of their likeness.
use Rattle.std.proofs.Common.{◌≡◌, ℕ, zero, suc, ◌≤◌, Bool, true, false, not, List, [], ◌∷◌, ◌++◌, map, length, min, take, replicate, vec_items, None, Option, sym, refl, ap, ◌∙◌, subst, subst₂, arith}
use Rattle.std.proofs.lemmas.Bool.{false≢true}
use Rattle.std.proofs.lemmas.List.{length-append, length-drop, take_all}
use Rattle.cab_unit.specs.Events.{Event}
use Rattle.driver_desk.specs.declared.answer.Answer.{Answer}
use Rattle.bench.specs.Likeness.{Told, told, calls_of, Alike, Alike.ended as nothing, Alike.cycles, Alike.other as equals, Alike.texts as stretches, AnswersAgree, left_open}
use Rattle.messages.specs.Shown.{dark, messages_of}
use Rattle.compare.specs.Compared.{AgreeWhere, Tallied, sampled, unspeeded}
use Rattle.compare.specs.Decided.{Speeds, LawDecided}
use Rattle.compare.specs.Marks.{is_open, opens, kept, marks_of}
use Rattle.compare.specs.Verdicts.{Lists, Whole, told_in, Found, Decided}
use Rattle.compare.specs.Walked.{Walked, Walked.ended, Walked.more, AsLong, Compared, Compared.whole, Compared.cut}
use Rattle.compare.specs.declared.marks.Mark.{Mark}
use Rattle.compare.specs.declared.tally.Tally.{Tally}
use Rattle.compare.specs.declared.verdict.Verdict.{Verdict}
use Rattle.messages.proofs.Runs.{length-messages_from}
use Rattle.compare.proofs.Shuffling.{shuffle_length}
use Rattle.compare.proofs.Tallying.{none_differs}
use Rattle.compare.proofs.Walking.{front_within}

-- a mark for each place of a front
length-marks : (m : Bool) (k : ℕ) → length (marks_of m k) ≡ k
length-marks true zero = refl
length-marks true (suc zero) = refl
length-marks true (suc (suc k)) = ap (λ n. suc n) (length-marks true (suc k))
length-marks false zero = refl
length-marks false (suc k) = ap (λ n. suc n) (length-marks false k)

-- a mark for each call
walked_length : {s : Bool} {ms : List Mark} {es fs : List Event} {as' bs : List Answer} → Walked s ms es as' fs bs → length ms ≡ length es
walked_length ended = refl
walked_length (more {m = m} {k = k} {ms = ms} {es = es} r w) =
    let i = walked_length w in
    let h = front_within r in
    let l = length-append (marks_of m k) ms in
    let n = length-marks m k in
    let d = length-drop k es in
    omega (arith, i, h.1.0, l, n, d)

length-take-min : {X : Type 0} (n : ℕ) (xs : List X) → length (take n xs) ≡ min n (length xs)
length-take-min zero xs = omega arith
length-take-min (suc n) [] = omega arith
length-take-min (suc n) (x ∷ xs) = let i = length-take-min n xs in omega (arith, i)

-- as far as both lists go
pub compared_length : {s : Bool} {ms : List Mark} {es fs : List Event} {as' bs : List Answer} → Compared s ms es as' fs bs → length as' ≡ length es → length bs ≡ length fs → length ms ≡ min (length es) (length fs)
compared_length (whole l w) a b = let i = walked_length w in omega (arith, i, l.0)
compared_length (cut n {es = es} h e w) a b =
    let i = walked_length w in
    let t = length-take-min n es in
    omega (arith, i, t, e, a, b)

-- where they are found alike none is longer
pub compared_long : {s : Bool} {ms : List Mark} {es fs : List Event} {as' bs : List Answer} → Compared s ms es as' fs bs → s ≡ true → AsLong es as' fs bs
compared_long (whole l w) e = l
compared_long (cut n h m w) e = absurd (false≢true e)

abbrev pub none_of : Option ℕ → Option ℕ
none_of v = None

-- a run with no speeds told
pub told-unspeeded : (es : List Event) (as' : List Answer) (vs : List (Option ℕ)) → unspeeded (told es as' vs) ≡ told es as' (map none_of vs)
told-unspeeded [] as' vs = refl
told-unspeeded (e ∷ es) [] vs = refl
told-unspeeded (e ∷ es) (a ∷ as') [] = refl
told-unspeeded (e ∷ es) (a ∷ as') (v ∷ vs) =
    let x : Told = record { call = e; answer = a; speed = None } in
    ap (λ l. x ∷ l) (told-unspeeded es as' vs)

pub nones_agree : (ks : List Bool) (vs ws : List (Option ℕ)) → AgreeWhere ks (map none_of vs) (map none_of ws)
nones_agree [] vs ws = tt
nones_agree (k ∷ ks) [] ws = tt
nones_agree (k ∷ ks) (v ∷ vs) [] = tt
nones_agree (k ∷ ks) (v ∷ vs) (w ∷ ws) = (λ _. refl, nones_agree ks vs ws)

pub length-nones : (vs : List (Option ℕ)) → length (map none_of vs) ≡ length vs
length-nones [] = refl
length-nones (v ∷ vs) = ap (λ n. suc n) (length-nones vs)

-- the answers of a run as it is told
abbrev answers_of : List Told → List Answer
answers_of xs = map (λ (x : Told). x.answer) xs

told-answers : (es : List Event) (as' : List Answer) (vs : List (Option ℕ)) → length as' ≡ length es → length vs ≡ length es → answers_of (told es as' vs) ≡ as'
told-answers [] [] vs h n = refl
told-answers [] (a ∷ as') vs h n = absurd (omega (arith, h))
told-answers (e ∷ es) [] vs h n = refl
told-answers (e ∷ es) (a ∷ as') [] h n = absurd (omega (arith, n))
told-answers (e ∷ es) (a ∷ as') (v ∷ vs) h n = ap (λ l. a ∷ l) (told-answers es as' vs (omega (arith, h)) (omega (arith, n)))

abbrev closed : List Bool → List Bool
closed os = map (λ (o : Bool). not o) os

kept-opens : (ms : List Mark) → kept ms ≡ closed (opens ms)
kept-opens [] = refl
kept-opens (m ∷ ms) = ap (λ l. not (is_open m) ∷ l) (kept-opens ms)

-- over a stretch, all of whose places are left open
open_over : (ps qs xs ys : List Told) (os : List Bool) → length (calls_of ps) ≡ length (calls_of qs) → AgreeWhere (closed os) (answers_of xs) (answers_of ys) →
    AgreeWhere (closed (replicate (length ps) true ++ os)) (answers_of (ps ++ xs)) (answers_of (qs ++ ys))
open_over [] [] xs ys os n r = r
open_over [] (q ∷ qs) xs ys os n r = absurd (omega (arith, n))
open_over (p ∷ ps) [] xs ys os n r = absurd (omega (arith, n))
open_over (p ∷ ps) (q ∷ qs) xs ys os n r = (λ h. absurd (false≢true h), open_over ps qs xs ys os (omega (arith, n)) r)

-- answers that agree are equal where none is left open
agree_kept : {xs ys : List Told} (k : Alike xs ys) → AnswersAgree k → AgreeWhere (closed (left_open k)) (answers_of xs) (answers_of ys)
agree_kept nothing g = tt
agree_kept (cycles p q v k) g = (λ _. g.0, agree_kept k g.1)
agree_kept (equals p q k) g = (λ _. g.0, agree_kept k g.1)
agree_kept (stretches ps qs {xs} {ys} a b w k) g = open_over ps qs xs ys (left_open k) (shuffle_length w) (agree_kept k g)

-- nothing differs where what is compared is equal, and the other way round, where the lists are as long as what is compared
module _ {X : Type 0} (ks : List Bool) (n : ℕ) (xs ys : List X) (t : Tally) (r : Tallied ks (take n xs) (take n ys) t) (l : length xs ≤ n) (m : length ys ≤ n) where
  pub none_then : AgreeWhere ks xs ys → t.differing ≡ 0
  none_then g = (none_differs r).1 (subst₂ (λ us vs. AgreeWhere ks us vs) (sym (take_all n xs l)) (sym (take_all n ys m)) g)

  pub then_none : t.differing ≡ 0 → AgreeWhere ks xs ys
  then_none e = subst₂ (λ us vs. AgreeWhere ks us vs) (take_all n xs l) (take_all n ys m) ((none_differs r).0 e)

module _ (one other : Lists) (v : Verdict) (o : Whole one) (p : Whole other)
    (d : LawDecided v.alike (vec_items v.marks) one.calls one.answers other.calls other.answers) (f : Found one other v) where
  pub found_decided : Decided one other v
  found_decided =
      let xs = told-unspeeded one.calls one.answers one.speeds in
      let ys = told-unspeeded other.calls other.answers other.speeds in
      let hushed : Speeds (map none_of one.speeds) one.calls (map none_of other.speeds) other.calls = (length-nones one.speeds ∙ o.1, length-nones other.speeds ∙ p.1) in
      let whole' : Speeds one.speeds one.calls other.speeds other.calls = (o.1, p.1) in
      let marks = compared_length f.likeness o.0 p.0 in
      record {
        alike = (
          λ e. subst₂ Alike (sym xs) (sym ys) (d.0 e (map none_of one.speeds) (map none_of other.speeds) hushed (nones_agree (sampled one.calls other.calls) one.speeds other.speeds)).0,
          λ k. (d.1 (map none_of one.speeds) (map none_of other.speeds) hushed o.0 p.0 (subst₂ Alike xs ys k)).0,
        );
        likeness = (
          λ k.
              let g = d.1 one.speeds other.speeds whole' o.0 p.0 k in
              let l = compared_long f.likeness g.0 in
              (g.0, none_then _ _ _ _ _ f.tallies.speeds (omega (arith, marks, l.0, o.1)) (omega (arith, marks, l.0, p.1)) g.1),
          λ h.
              let l = compared_long f.likeness h.0 in
              (d.0 h.0 one.speeds other.speeds whole' (then_none _ _ _ _ _ f.tallies.speeds (omega (arith, marks, l.0, o.1)) (omega (arith, marks, l.0, p.1)) h.1)).0,
        );
        open_places = λ k. (d.1 one.speeds other.speeds whole' o.0 p.0 k).2;
        shown = λ e z.
            let l = compared_long f.likeness e in
            let samples = then_none _ _ _ _ _ f.tallies.speeds (omega (arith, marks, l.0, o.1)) (omega (arith, marks, l.0, p.1)) z in
            let k = d.0 e one.speeds other.speeds whole' samples in (
              k.0,
              k.1,
              λ g. none_then _ _ _ _ _ f.tallies.answers (omega (arith, marks, l.0, o.0)) (omega (arith, marks, l.0, p.0))
                  (subst₂ (λ as' bs. AgreeWhere (kept (vec_items v.marks)) as' bs) (told-answers one.calls one.answers one.speeds o.0 o.1) (told-answers other.calls other.answers other.speeds p.0 p.1)
                  (subst (λ ks. AgreeWhere ks (answers_of (told_in one)) (answers_of (told_in other))) (ap closed k.1 ∙ sym (kept-opens (vec_items v.marks))) (agree_kept k.0 g))),
              λ g z'. none_then _ _ _ _ _ f.tallies.messages (omega (arith, marks, l.0, length-messages one o)) (omega (arith, marks, l.0, length-messages other p)) (k.2 dark (tt, tt) g z'),
            );
      }
    where
      length-messages : (x : Lists) → Whole x → length (messages_of x.calls x.answers) ≡ length x.calls
      length-messages x h = length-messages_from dark x.calls x.answers h.0
