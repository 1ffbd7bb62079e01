use Rattle.std.proofs.Common.{◌≡◌, length, take, drop, ap, ◌∙◌, rules, tests}
use Rattle.std.specs.Option.{unwrap_or}
use Rattle.std.specs.List.{position, position_or_len}
use Rattle.std.proofs.lemmas.Iterator.{YieldsList-from_slice}
use Rattle.std.proofs.lemmas.Iterator.Search.{position_from_yields_List}
use Rattle.call_list.specs.Words.{is_blank, is_printing, from_word}
use Rattle.call_list.proofs.Places.{place_or_len}
use Rattle.call_list.proofs.words.split_word.Goals as goal

pub returns : goal.returns
returns c =
    let text = c.args.text.now in
    let from = c.split_at.result.1.now in
    let printing : c.position.result ≡ position is_printing text =
    position_from_yields_List is_printing _ _ c.position.result c.position.ensures.ran (YieldsList-from_slice text cc) (λ x b q k. search (rules, tests)) in
    let blank : c.position-2.result ≡ position is_blank from =
    position_from_yields_List is_blank _ _ c.position-2.result c.position-2.ensures.ran (YieldsList-from_slice from cc) (λ x b q k. search (rules, tests)) in
    let start = c.unwrap_or-start.ensures ∙ ap (λ o. unwrap_or o (length text)) printing ∙ place_or_len is_printing text in
    let end = c.unwrap_or-end.ensures ∙ ap (λ o. unwrap_or o (length from)) blank ∙ place_or_len is_blank from in
    let cut : from ≡ from_word text = c.split_at.ensures.back ∙ ap (λ n. drop n text) start in
    record {
      word = c.split_at-2.ensures.front ∙ ap (λ n. take n from) end ∙ ap (λ f. take (position_or_len is_blank f) f) cut;
      after = c.split_at-2.ensures.back ∙ ap (λ n. drop n from) end ∙ ap (λ f. drop (position_or_len is_blank f) f) cut;
    }
