use Rattle.std.proofs.Common.{sym, ap, ◌∙◌, rules, tests}
use Rattle.std.specs.Slice.Iter.{iter_rest}
use Rattle.std.proofs.lemmas.Iterator.{YieldsList-from_slice}
use Rattle.std.proofs.lemmas.Iterator.Consumers.{YieldsList-from_filter, count_from_yields_List}
use Rattle.driver_desk.specs.Requests.{before, of_class}
use Rattle.cab_unit.proofs.Places.{filtered-sorted}
use Rattle.cab_unit.proofs.waiting.Waiting.number_of.Goals as goal

pub returns : goal.returns
returns c =
    let l = c.args.self.now.items.items in
    let all = YieldsList-from_slice l (ap iter_rest c.filter.ensures.source ∙ c.iter.ensures.rest ∙ c.deref.ensures.0) in
    count_from_yields_List c.filter.result _ c.count.ensures.ran (YieldsList-from_filter _ (of_class c.args.class) all c.filter.ensures.closure (λ x b q k. search (rules, tests)))
    ∙ sym (filtered-sorted before (of_class c.args.class) l)
