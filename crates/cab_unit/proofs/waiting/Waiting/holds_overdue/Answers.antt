use Rattle.std.proofs.Common.{sym, ◌∙◌, ◌&&◌, rules, tests}
use Rattle.std.proofs.lemmas.Iterator.{YieldsList-from_slice}
use Rattle.std.proofs.lemmas.Iterator.Search.{any_from_yields_List}
use Rattle.driver_desk.specs.Requests.{before, is_for, overdue}
use Rattle.cab_unit.proofs.Places.{any_sorted}
use Rattle.cab_unit.proofs.waiting.Waiting.holds_overdue.Goals as goal

pub returns : goal.returns
returns c =
    let l = c.args.self.now.items.items in
    any_from_yields_List (λ x. is_for c.args.class c.args.number x && overdue c.args.cycle x) _ _ _ c.any.ensures.ran (YieldsList-from_slice l (c.iter.ensures.rest ∙ c.deref.ensures.0)) (λ x b q k. search (rules, tests)) ∙ sym (any_sorted before _ l)
