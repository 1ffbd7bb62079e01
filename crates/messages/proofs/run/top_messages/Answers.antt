use Rattle.std.proofs.Common.{[], ◌∷◌, ◌++◌, ◌<◌, ◌≤◌, length, map, min, ap, ◌∙◌, arith}
use Rattle.std.proofs.lemmas.List.{map_push}
use Rattle.cab_unit.specs.Events.{said}
use Rattle.messages.specs.Texts.{words}
use Rattle.messages.proofs.Held.{said-at, messages_more, messages_end}
use Rattle.messages.proofs.run.top_messages.Goals as goal

pub loop-place-preserved : goal.loop-place-preserved
loop-place-preserved c =
    let calls = c.args.calls.now in
    let xs = c.loop-place.tops.items in
    let i = c.loop-place.place in
    let within : i < length calls = omega arith in
    let told : i < length c.args.answers.now = omega arith in
    messages_more calls _ i _ _ _ _ _ _ _ within told (c.show_call.ensures (map said calls) (said-at calls i _ within))
    (ap (map words) c.in_ok-push.ensures.items ∙ map_push words xs c.top_words.result ∙ ap (λ t. map words xs ++ t ∷ []) c.top_words.ensures) c.loop-place.invariant

pub returns-clause-value : goal.returns-clause-value
returns-clause-value c =
    let over : min (length c.args.calls.now) (length c.args.answers.now) ≤ c.loop-place.place = omega arith in
    messages_end c.args.calls.now _ c.loop-place.place _ _ _ over c.loop-place.invariant
