use Rattle.std.proofs.Common.{Some, map, get_or, sym, ap, ◌∙◌}
use Rattle.cab_unit.specs.Events.{said}
use Rattle.window.specs.Window.{lines}
use Rattle.messages.specs.Texts.{text_at}
use Rattle.messages.proofs.Held.{free, top_leads}
use Rattle.messages.proofs.messages.Messages.top_words.Goals as goal

pub returns : goal.returns
returns c =
    let es = map said c.args.calls.now in
    let w = c.args.self.now.window in
    let i = c.in_ok-position.position in
    ap Some (c.words_at.ensures ∙ ap (λ ls. text_at es (get_or ls i free).place) c.lines.ensures)
    ∙ sym (top_leads es (lines w) c.top.result free w.distinct c.top.ensures.leads i c.in_ok-position.was)
