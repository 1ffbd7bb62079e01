use Rattle.std.proofs.Common.{◌≡◌, ◌+◌, Bool, true, false, not, ◌&&◌, [], ◌∷◌, ◌++◌, take, is_some, IfSome, sym, ap, ◌∙◌, refl, subst}
use Rattle.std.proofs.lemmas.Bool.{true≢false}
use Rattle.cab_unit.specs.Events.{Event, said}
use Rattle.driver_desk.specs.Answers.{is_accepted}
use Rattle.cab_unit.specs.Events.{is_text}
use Rattle.compare.specs.Asked.{asked, keyed}
use Rattle.compare.proofs.Keying.{key_found, key_says}
use Rattle.compare.proofs.Walking.{text_found, take_found, one_more}
use Rattle.compare.proofs.compare.text_at.Goals as goal

not_some : (b r : Bool) → b ≡ not r → r ≡ true → not b ≡ true
not_some true r e h = absurd (true≢false (e ∙ ap not h))
not_some false r e h = refl

and_true : (b c : Bool) → c ≡ true → b ≡ (b && c)
and_true true c h = sym h
and_true false c h = refl

pub returns-in-Some-Some-clause-found : goal.returns-in-Some-Some-clause-found
returns-in-Some-Some-clause-found c =
    let a = c.in-Some-Some.ensures'.lookup in
    let k = c.in-Some-Some.ensures.lookup in
    ap is_some c.text_key.ensures ∙ key_found c.in-Some-Some.call.now
    ∙ and_true (is_text (said c.in-Some-Some.call.now)) (is_accepted c.in-Some-Some.answer.now) (not_some _ _ c.is_none.ensures c.if-is_none.true)
    ∙ sym (text_found c.args.run.calls.now c.args.run.answers.now c.args.place _ _ k.3.0 a.3.0 k.3.1 a.3.1)

pub returns-in-Some-Some-clause-key : goal.returns-in-Some-Some-clause-key
returns-in-Some-Some-clause-key c =
    let k = c.in-Some-Some.ensures.lookup in
    let p = ap (λ n. take n (asked c.args.run)) (sym (one_more c.args.place)) ∙ take_found c.args.run.calls.now c.args.place c.in-Some-Some.call.now k.3.0 k.3.1 in
    subst (λ o. IfSome o (λ x. take (c.args.place + 1) (asked c.args.run) ≡ take c.args.place (asked c.args.run) ++ keyed x ∷ [])) (sym c.text_key.ensures)
    (key_says (λ (e : Event). take (c.args.place + 1) (asked c.args.run) ≡ take c.args.place (asked c.args.run) ++ e ∷ []) c.in-Some-Some.call.now p)
