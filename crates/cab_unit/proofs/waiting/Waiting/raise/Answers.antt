use Rattle.std.proofs.Common.{sym, ap, ◌∙◌, subst, arith}
use Rattle.cab_unit.specs.Facts.{Few}
use Rattle.cab_unit.specs.Places.{sorted, Single}
use Rattle.driver_desk.specs.Requests.{before}
use Rattle.cab_unit.proofs.Queue.{few_put}
use Rattle.cab_unit.proofs.Room.{place-left, raised-behind, single_put}
use Rattle.cab_unit.proofs.waiting.Waiting.raise.Goals as goal

pub push-requires : goal.push-requires
push-requires c = (omega arith, place-left c.args.request.class _ c.args.self.now.few c.requires.room)

pub invariant_of-self : goal.invariant_of-self
invariant_of-self c =
    let w = c.args.self.now in
    let new = sym (ap (sorted before) c.push.ensures.items ∙ raised-behind w.items.items c.args.request c.requires.fresh) in
    record { few = subst Few new (few_put c.args.request _ c.requires.room w.few); single = subst Single new (single_put c.args.request _ w.single c.requires.fresh) }

pub returns : goal.returns
returns c = ap (sorted before) c.push.ensures.items ∙ raised-behind c.args.self.now.items.items c.args.request c.requires.fresh
