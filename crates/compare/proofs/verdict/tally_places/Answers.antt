use Rattle.std.proofs.Common.{◌≡◌, ◌+◌, Bool, List, map, length, sym, subst, arith, take, take_all, subst₂}
use Rattle.std.proofs.lemmas.List.{length-map}
use Rattle.cab_unit.specs.Events.{said}
use Rattle.messages.specs.Texts.{words}
use Rattle.compare.specs.Compared.{Tallied, sampled}
use Rattle.compare.specs.Marks.{kept, shown_kept}
use Rattle.compare.proofs.Tallying.{SoFar, none_yet, one_more, words_at, length-sampled, length-kept, length-shown_kept}
use Rattle.compare.proofs.verdict.tally_places.Goals as goal

pub loop-i-init : goal.loop-i-init
loop-i-init c = record {
  speeds = subst (SoFar 0 _ _ _) (sym c.none-speeds.ensures) (none_yet _ _ _);
  answers = subst (SoFar 0 _ _ _) (sym c.none-answers.ensures) (none_yet _ _ _);
  messages = subst (SoFar 0 _ _ _) (sym c.none-shown.ensures) (none_yet _ _ _);
}

pub loop-i-preserved : goal.loop-i-preserved
loop-i-preserved c =
    let i = c.loop-i.i in
    let r = c.requires in
    let t = c.loop-i-test.true in
    let inv = c.loop-i.invariant in
    let ks = c.args.one.calls.now in
    let ls = c.args.other.calls.now in
    let ms = c.args.marks.now in
    let n = length-map ks said in
    let m = length-map ls said in
    let s = length-sampled ks ls in
    let u = length-kept ms in
    let v = length-shown_kept ms in
    let w = length-map c.args.messages.now words in
    let x = length-map c.args.other_messages.now words in
    let a = r.runs.0 in
    let b = r.runs.1 in
    record {
      speeds = subst (SoFar (i + 1) (sampled (map said ks) (map said ls)) c.args.one.speeds.now c.args.other.speeds.now) (sym c.add.ensures.added)
          (one_more _ _ _ i _ _ _ (omega (arith, n, m, s, r.marks, t)) (omega (arith, n, m, a.1, r.marks, t)) (omega (arith, n, m, b.1, r.marks, t)) c.is_sample-sample.ensures c.same_speeds-speed.ensures inv.speeds);
      answers = subst (SoFar (i + 1) (kept ms) c.args.one.answers.now c.args.other.answers.now) (sym c.add-in-loop-i.ensures.added)
          (one_more _ _ _ i _ _ _ (omega (arith, u, t)) (omega (arith, n, m, a.0, r.marks, t)) (omega (arith, n, m, b.0, r.marks, t)) c.is_kept-kept.ensures c.same_answers-answer.ensures inv.answers);
      messages = subst (SoFar (i + 1) (shown_kept ms) (map words c.args.messages.now) (map words c.args.other_messages.now)) (sym c.add-in-loop-i-2.ensures.added)
          (one_more _ _ _ i _ _ _ (omega (arith, v, t)) (omega (arith, n, m, w, r.messages, r.marks, t)) (omega (arith, n, m, x, r.messages, r.marks, t)) c.is_shown-is_shown.ensures
          (words_at _ _ i _ (omega (arith, n, m, r.messages, r.marks, t)) (omega (arith, n, m, r.messages, r.marks, t)) c.same_messages-message.ensures) inv.messages);
    }

pub returns : goal.returns
returns c =
    let i = c.loop-i.i in
    let inv = c.loop-i.invariant in
    let n = length-map c.args.one.calls.now said in
    let m = length-map c.args.other.calls.now said in
    let s = length-sampled c.args.one.calls.now c.args.other.calls.now in
    let u = length-kept c.args.marks.now in
    let v = length-shown_kept c.args.marks.now in
    let over = c.loop-i-test.false in
    let end : i ≡ length c.args.marks.now = omega (arith, over) in
    record {
      speeds = subst₂ (λ (ks : List Bool) j. Tallied ks (take j c.args.one.speeds.now) (take j c.args.other.speeds.now) c.loop-i.speeds) (take_all i _ (omega (arith, n, m, s, c.requires.marks, end))) end inv.speeds.tallied;
      answers = subst₂ (λ (ks : List Bool) j. Tallied ks (take j c.args.one.answers.now) (take j c.args.other.answers.now) c.loop-i.answers) (take_all i _ (omega (arith, u, end))) end inv.answers.tallied;
      messages = subst₂ (λ (ks : List Bool) j. Tallied ks (take j (map words c.args.messages.now)) (take j (map words c.args.other_messages.now)) c.loop-i.shown) (take_all i _ (omega (arith, v, end))) end inv.messages.tallied;
    }
