use Rattle.std.proofs.Common.{ℕ, List, Option, map, length, vec_items, sym, ap, ◌∙◌, subst, subst₂}
use Rattle.std.proofs.lemmas.List.{length-map}
use Rattle.messages.specs.Shown.{dark, messages_of}
use Rattle.messages.specs.Texts.{words}
use Rattle.messages.proofs.Runs.{length-messages_from}
use Rattle.compare.specs.Verdicts.{TalliesOf, lists_of}
use Rattle.compare.specs.declared.marks.Mark.{Mark}
use Rattle.compare.proofs.Judging.{compared_length, found_decided}
use Rattle.compare.proofs.verdict.compare_runs.Goals as goal

pub tally_places-tallies-requires-clause-marks : goal.tally_places-tallies-requires-clause-marks
tally_places-tallies-requires-clause-marks c =
    ap length c.deref.ensures.value ∙ compared_length c.in_ok-alike.ensures.value c.requires.0.0 c.requires.1.0

pub tally_places-tallies-requires-clause-messages : goal.tally_places-tallies-requires-clause-messages
tally_places-tallies-requires-clause-messages c = (
  ap length c.deref-2.ensures.value ∙ sym (length-map (vec_items c.in_ok-messages.messages) words) ∙ ap length c.in_ok-messages.ensures.value ∙ length-messages_from dark _ _ c.requires.0.0,
  ap length c.deref-3.ensures.value ∙ sym (length-map (vec_items c.in_ok-other_messages.other_messages) words) ∙ ap length c.in_ok-other_messages.ensures.value ∙ length-messages_from dark _ _ c.requires.1.0,
)

pub returns-clause-decided : goal.returns-clause-decided
returns-clause-decided c =
    let one = lists_of c.args.one in
    let other = lists_of c.args.other in
    let t = c.tally_places-tallies.result in
    let shown = messages_of one.calls one.answers in
    let other_shown = messages_of other.calls other.answers in
    let m = ap (map words) c.deref-2.ensures.value ∙ c.in_ok-messages.ensures.value in
    let n = ap (map words) c.deref-3.ensures.value ∙ c.in_ok-other_messages.ensures.value in
    found_decided one other _ c.requires.0 c.requires.1 c.in_ok-alike.ensures.law (record {
      likeness = c.in_ok-alike.ensures.value;
      messages = c.in_ok-messages.ensures.value;
      other_messages = c.in_ok-other_messages.ensures.value;
      tallies = subst (λ (ms : List Mark). TalliesOf one other ms shown other_shown t) c.deref.ensures.value
          (subst₂ (λ (xs ys : List (Option (List ℕ))). TalliesOf one other c.deref.result.now xs ys t) m n c.tally_places-tallies.ensures);
    })
