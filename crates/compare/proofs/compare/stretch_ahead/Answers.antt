use Rattle.std.proofs.Common.{◌≡◌, ◌+◌, ◌<◌, ◌≤◌, ◌&&◌, false, take, drop, sym, refl, ◌∙◌, subst, subst₂, ⊎_elim, arith}
use Rattle.std.proofs.lemmas.Bool.{true≢false, false≢true, and_left, and_right, cases_lt}
use Rattle.ordering.specs.Shuffle.{Shuffle}
use Rattle.compare.specs.Asked.{asked}
use Rattle.compare.specs.Walked.{Front.stretch, Front.apart, text_next}
use Rattle.compare.proofs.Accounting.{Owes, owes_more, settled_at, all_settled_at}
use Rattle.compare.proofs.Walking.{looser, apart_more, apart_here}
use Rattle.compare.proofs.compare.stretch_ahead.Goals as goal
use Rattle.compare.proofs.compare.stretch_ahead.Goals.{in_default, in_default-2}

pub enter-requires-in-Some-Some-clause-small : goal.enter-requires-in-Some-Some-clause-small
enter-requires-in-Some-Some-clause-small c =
    (c.loop-key.length + 1, c.loop-key.length + 0, c.in_ok-enter.ensures.small c.loop-key.length c.loop-key.length c.loop-key.invariant.4, omega arith, omega arith)

pub returns-then-is_empty : goal.returns-then-is_empty
returns-then-is_empty c =
    let n = c.loop-key.length in
    let i = c.loop-key.invariant in
    let l = looser n _ _ _ _ i.0 (sym c.in-Some-Some.ensures.found) (sym c.in-Some-Some.ensures'.found) in
    let o = subst₂ (Owes c.enter-in-Some-Some.new.unsettled) (sym c.in-Some-Some.ensures.key) (sym c.in-Some-Some.ensures'.key)
    (owes_more c.loop-key.account c.enter.new.unsettled c.enter-in-Some-Some.new.unsettled c.in-Some-Some.key c.in-Some-Some.other_key _ _ i.2 c.in_ok-enter.ensures.entered c.in_ok-enter-2.ensures.entered) in
    let s = settled_at c.enter-in-Some-Some.new.unsettled c.args.run.calls.now c.args.other.calls.now (n + 1) l.1 l.3 o c.in_ok-enter-2.ensures.settled (c.if-is_empty.ensures.0 refl) in
    let longer : 1 < n + 1 =
    ⊎_elim
    (λ (h : 0 < n). omega (arith, h))
    (λ (h : n ≤ 0). let one : n + 1 ≡ 1 = omega (arith, h) in absurd (c.requires.differ 1 (omega arith) (omega arith) (subst (λ j. Shuffle (take j (asked c.args.run)) (take j (asked c.args.other))) one s)))
    (cases_lt 0 n) in
    stretch (n + 1) longer l (apart_here n _ _ i.1) s

pub loop-key-preserved : goal.loop-key-preserved
loop-key-preserved c =
    let n = c.loop-key.length in
    let i = c.loop-key.invariant in
    let l = looser n _ _ _ _ i.0 (sym c.in-Some-Some.ensures.found) (sym c.in-Some-Some.ensures'.found) in
    let o = subst₂ (Owes c.enter-in-Some-Some.new.unsettled) (sym c.in-Some-Some.ensures.key) (sym c.in-Some-Some.ensures'.key)
    (owes_more c.loop-key.account c.enter.new.unsettled c.enter-in-Some-Some.new.unsettled c.in-Some-Some.key c.in-Some-Some.other_key _ _ i.2 c.in_ok-enter.ensures.entered c.in_ok-enter-2.ensures.entered) in (
      l,
      apart_more n _ _ i.1 (λ s. false≢true (c.if-is_empty.ensures.1 (all_settled_at c.enter-in-Some-Some.new.unsettled c.args.run.calls.now c.args.other.calls.now (n + 1) l.1 l.3 o c.in_ok-enter-2.ensures.settled s))),
      o,
      c.in_ok-enter-2.ensures.settled,
      λ q. let b = c.in_ok-enter-2.ensures.small (n + 1) (n + 0) (c.in_ok-enter.ensures.small n n i.4) q in (omega (arith, b.0), omega (arith, b.1)),
    )

pub returns : goal.returns
returns c =
    let n = c.loop-key.length in
    let i = c.loop-key.invariant in
    let over : (text_next (drop n (asked c.args.run)) (drop n c.args.run.answers.now) && text_next (drop n (asked c.args.other)) (drop n c.args.other.answers.now)) ≡ false =
    elim c.match-text_at.branch [
      | in_default w ↦ and_right _ _ (sym w.in_default.ensures'.found)
      | in_default-2 w ↦ and_left _ _ (sym w.in_default.ensures.found)
    ] in
    let some : 0 < n =
    ⊎_elim
    (λ (h : 0 < n). h)
    (λ (h : n ≤ 0). let none : n ≡ 0 = omega (arith, h) in absurd (true≢false (sym c.requires.texts ∙ subst (λ j. (text_next (drop j (asked c.args.run)) (drop j c.args.run.answers.now) && text_next (drop j (asked c.args.other)) (drop j c.args.other.answers.now)) ≡ false) none over)))
    (cases_lt 0 n) in
    apart n some i.0 over i.1
