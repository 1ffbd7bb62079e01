use Rattle.std.proofs.Common.{sym, subst, arith, rules, tests}
use Rattle.arrayvec.proofs.ArrayVecLemmas.{filter-from_retain}
use Rattle.cab_unit.specs.Facts.{Few}
use Rattle.cab_unit.specs.Places.{Single}
use Rattle.driver_desk.specs.Requests.{of_class, not_of_class}
use Rattle.cab_unit.proofs.Room.{withdrawn, few_kept, single_kept}
use Rattle.cab_unit.proofs.waiting.Waiting.withdraw_class.Goals as goal

pub invariant_of-self : goal.invariant_of-self
invariant_of-self c =
    let w = c.args.self.now in
    let went = withdrawn (of_class c.args.class) w.items.items _ (filter-from_retain _ (not_of_class c.args.class) _ (λ x b f' y k. search (rules, tests)) _ _ c.retain.ensures.filtered) in
    record { few = subst Few (sym went.0) (few_kept (not_of_class c.args.class) _ w.few); single = subst Single (sym went.0) (single_kept (not_of_class c.args.class) _ w.single) }

pub returns : goal.returns
returns c =
    let w = c.args.self.now in
    let went = withdrawn (of_class c.args.class) w.items.items _ (filter-from_retain _ (not_of_class c.args.class) _ (λ x b f' y k. search (rules, tests)) _ _ c.retain.ensures.filtered) in
    record { rest = went.0; number = omega (arith, went.1, c.len-waited.ensures.value, c.len.ensures.value); most = omega (arith, c.len-waited.ensures.fits) }
