use Rattle.std.proofs.Common.{Some, sym, ap, ◌∙◌, subst}
use Rattle.ordering.specs.Order.{NoneBefore}
use Rattle.cab_unit.specs.Facts.{Few}
use Rattle.cab_unit.specs.Places.{sorted, Single}
use Rattle.driver_desk.specs.Requests.{before, first_of, rest_of}
use Rattle.cab_unit.proofs.Room.{first_chosen, few_rest, single_rest}
use Rattle.cab_unit.proofs.waiting.Waiting.end_first.Goals as goal

pub invariant_of-self : goal.invariant_of-self
invariant_of-self c =
    let w = c.args.self.now in
    let chosen = subst (λ l. NoneBefore before l (Some c.in_ok-i.i)) c.deref.ensures.0 c.in_ok-i.ensures.none_before in
    let new = ap rest_of (first_chosen w.items.items c.in_ok-i.i c.swap_remove.result w.single chosen) ∙ sym (ap (sorted before) c.swap_remove.ensures.items) in
    record { few = subst Few new (few_rest _ w.few); single = subst Single new (single_rest _ w.single) }

pub returns-clause-ended : goal.returns-clause-ended
returns-clause-ended c =
    let w = c.args.self.now in
    let chosen = subst (λ l. NoneBefore before l (Some c.in_ok-i.i)) c.deref.ensures.0 c.in_ok-i.ensures.none_before in
    ap Some c.swap_remove.ensures.value ∙ sym (ap first_of (first_chosen w.items.items c.in_ok-i.i c.swap_remove.result w.single chosen))

pub returns-clause-rest : goal.returns-clause-rest
returns-clause-rest c =
    let w = c.args.self.now in
    let chosen = subst (λ l. NoneBefore before l (Some c.in_ok-i.i)) c.deref.ensures.0 c.in_ok-i.ensures.none_before in
    ap (sorted before) c.swap_remove.ensures.items ∙ sym (ap rest_of (first_chosen w.items.items c.in_ok-i.i c.swap_remove.result w.single chosen))
