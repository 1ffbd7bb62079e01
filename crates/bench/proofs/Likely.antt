-- Runs that are alike answer equally outside the stretches of texts, and end in equal states.
use Rattle.std.proofs.Common.{◌≡◌, ℕ, List, [], ◌∷◌, ◌++◌, map, Option, sym, refl, ap, ◌∙◌, subst, ap₂}
use Rattle.cab_unit.specs.Events.{Event}
use Rattle.cab_unit.specs.Line.{settled}
use Rattle.cab_unit.specs.Refusing.{refusal}
use Rattle.cab_unit.specs.State.{State}
use Rattle.cab_unit.specs.Steps.{changed, next, reply, switched_on}
use Rattle.driver_desk.specs.declared.answer.Answer.{Answer}
use Rattle.bench.specs.Laws.{told_of, LikenessLaw, SpeedLaw}
use Rattle.bench.specs.Likeness.{Told, speed_after, speeds_read, told, AcceptedTexts, Alike, Alike.ended, Alike.cycles, Alike.other, Alike.texts, AnswersAgree}
use Rattle.bench.specs.Runs.{after, answers, speeds, final_state, run_of}
use Rattle.bench.proofs.Accepted.{outcome_is}
use Rattle.bench.proofs.Speeds.{told-speed, SameStep, cycles_by_speed, unread}
use Rattle.bench.proofs.Texts.{text-call, TextsHeard, shuffled, texts-unread}

-- this is told of a run from s
abbrev RunOf : (List ℕ → Option ℕ) → State → List Told → Type 0
RunOf reads s [] = Unit {0}
RunOf reads s (x ∷ xs) = (x.answer ≡ reply reads x.call s) × (x.speed ≡ (next reads x.call s).speed) × RunOf reads (next reads x.call s) xs

-- and the run ends so
abbrev end_of : (List ℕ → Option ℕ) → List Told → State → State
end_of reads xs s = after reads (map (λ (x : Told). x.call) xs) s

-- what is told of a run from s is so
told_run : (reads : List ℕ → Option ℕ) (es : List Event) (s : State) →
    RunOf reads s (told es (answers reads es s) (speeds reads es s)) × (end_of reads (told es (answers reads es s) (speeds reads es s)) s ≡ after reads es s)
told_run reads [] s = (tt, refl)
told_run reads (e ∷ es) s = let i = told_run reads es (next reads e s) in ((refl, refl, i.0), i.1)

-- the speeds of a run from s, on an end with its speed, are those read
read_run : (reads : List ℕ → Option ℕ) (es : List Event) (s : State) (v : Option ℕ) → v ≡ s.speed → speeds reads es s ≡ speeds_read reads v es (answers reads es s)
read_run reads [] s v h = refl
read_run reads (e ∷ es) s v h =
    let p : speed_after reads e (reply reads e s) v ≡ (next reads e s).speed = ap (speed_after reads e (reply reads e s)) h ∙ told-speed reads e s in
    ap₂ (λ u us. u ∷ us) (sym p) (read_run reads es (next reads e s) (speed_after reads e (reply reads e s) v) p)

-- a run of two parts is a run of the first, and of the second from where the first ends
run_parts : (reads : List ℕ → Option ℕ) (ps xs : List Told) (s : State) → RunOf reads s (ps ++ xs) → RunOf reads s ps × RunOf reads (end_of reads ps s) xs
run_parts reads [] xs s r = (tt, r)
run_parts reads (p ∷ ps) xs s r = let i = run_parts reads ps xs (next reads p.call s) r.2 in ((r.0, r.1, i.0), i.1)

-- and ends where that ends
end-parts : (reads : List ℕ → Option ℕ) (ps xs : List Told) (s : State) → end_of reads (ps ++ xs) s ≡ end_of reads xs (end_of reads ps s)
end-parts reads [] xs s = refl
end-parts reads (p ∷ ps) xs s = end-parts reads ps xs (next reads p.call s)

-- the texts told as accepted are so in their turn
told-heard : (reads : List ℕ → Option ℕ) (ps : List Told) (s : State) → RunOf reads s ps → AcceptedTexts ps → TextsHeard reads (map (λ (x : Told). x.call) ps) s
told-heard reads [] s r a = tt
told-heard reads (p ∷ ps) s r a =
    let o = refusal p.call s in (
      text-call p.call a.0.0,
      sym (outcome_is o s (changed reads p.call s)) ∙ ap (λ (b : Answer). b.outcome) (sym r.0) ∙ a.0.1,
      told-heard reads ps (next reads p.call s) r.2 a.1,
    )

-- of two runs, from s and from t, A holds and the ends are equal
abbrev Meet : (List ℕ → Option ℕ) → (List ℕ → Option ℕ) → List Told → List Told → Type 0 → State → State → Type 0
Meet r₁ r₂ xs ys A s t = RunOf r₁ s xs → RunOf r₂ t ys → A × (end_of r₁ xs s ≡ end_of r₂ ys t)

-- runs that meet from every state still do behind two calls that do the same
meet-behind : (r₁ r₂ : List ℕ → Option ℕ) (x y : Told) (xs ys : List Told) (A : Type 0) (s : State) → SameStep r₁ r₂ x.call y.call s →
    ((u : State) → Meet r₁ r₂ xs ys A u u) → Meet r₁ r₂ (x ∷ xs) (y ∷ ys) ((x.answer ≡ y.answer) × A) s s
meet-behind r₁ r₂ x y xs ys A s c k rx ry =
    let i = subst (Meet r₁ r₂ xs ys A (next r₁ x.call s)) c.0 (k (next r₁ x.call s)) rx.2 ry.2 in
    ((rx.0 ∙ c.1 ∙ sym ry.0, i.0), i.1)

-- alike runs from one state: the answers agree, and the ends are equal
alike_meet : (r₁ r₂ : List ℕ → Option ℕ) {xs ys : List Told} (k : Alike xs ys) (s : State) → Meet r₁ r₂ xs ys (AnswersAgree k) s s
alike_meet r₁ r₂ ended s rx ry = (tt, refl)
alike_meet r₁ r₂ (cycles {x} {y} {xs} {ys} p q v k) s rx ry =
    meet-behind r₁ r₂ x y xs ys (AnswersAgree k) s (cycles_by_speed r₁ r₂ x.call y.call s p q (sym rx.1 ∙ v ∙ ry.1)) (alike_meet r₁ r₂ k) rx ry
alike_meet r₁ r₂ (other {x} {y} {xs} {ys} p q k) s rx ry =
    meet-behind r₁ r₂ x y xs ys (AnswersAgree k) s (subst (λ (e : Event). SameStep r₁ r₂ x.call e s) q (unread r₁ r₂ x.call s p)) (alike_meet r₁ r₂ k) rx ry
alike_meet r₁ r₂ (texts ps qs {xs} {ys} a b w k) s rx ry =
    let m = run_parts r₁ ps xs s rx in
    let n = run_parts r₂ qs ys s ry in
    let h = shuffled r₁ s w (told-heard r₁ ps s m.0 a) in
    let e : end_of r₁ ps s ≡ end_of r₂ qs s = h.1 ∙ texts-unread r₁ r₂ (map (λ (x : Told). x.call) qs) s h.0 in
    let i = subst (Meet r₁ r₂ xs ys (AnswersAgree k) (end_of r₁ ps s)) e (alike_meet r₁ r₂ k (end_of r₁ ps s)) m.1 n.1 in
    (i.0, end-parts r₁ ps xs s ∙ i.1 ∙ sym (end-parts r₂ qs ys s))

-- an end switched on keeps its speed
switched_speed : (v : Option ℕ) → v ≡ (switched_on v).speed
unfolding settled
switched_speed v = refl

pub speed_law : SpeedLaw
speed_law reads speed es = read_run reads es (switched_on speed) speed (switched_speed speed)

-- two runs on unused units that are alike
pub likeness_law : LikenessLaw
likeness_law reads reads' speed speed' es fs p k =
    let xs = told_of (run_of reads speed es) in
    let ys = told_of (run_of reads' speed' fs) in
    let a = told_run reads es (switched_on speed) in
    let b = told_run reads' fs (switched_on speed') in
    let i = subst (Meet reads reads' xs ys (AnswersAgree k) (switched_on speed)) (ap switched_on p) (alike_meet reads reads' k (switched_on speed)) a.0 b.0 in
    let e : final_state reads speed es ≡ final_state reads' speed' fs = sym a.1 ∙ i.1 ∙ b.1 in
    record {
      answers = i.0;
      ends = record {
        mode = ap (λ (s : State). s.desk.mode) e;
        level = ap (λ (s : State). s.desk.level) e;
        waiting = ap (λ (s : State). s.waiting) e;
        line = ap (λ (s : State). s.line) e;
      };
    }
