use Rattle.std.proofs.Common.{◌≡◌, rules}
use Rattle.cab_unit.specs.Events.{Event, Event.cycle}
use Rattle.cab_unit.specs.Steps.{next}
use Rattle.cab_unit.specs.View.{view}
use Rattle.cab_unit.proofs.Stepping.{facts_after, facts_kept}
use Rattle.cab_unit.proofs.unit.Unit.cycle.Goals as goal

-- a refused call leaves the cab
pub invariant_of-self : goal.invariant_of-self
invariant_of-self g c = record { facts = facts_kept _ c.args.self.now.cab c.in-Err.ensures.back c.args.self.now.facts }

pub invariant_of-self-in-Ok : goal.invariant_of-self-in-Ok
invariant_of-self-in-Ok g c =
    let reads = g.E.TrainEnd.reading in
    let e : Event = cycle c.args.block.now in
    let see = view g.E.TrainEnd in
    let s = see c.args.self.now.cab in
    let state : see c.finish.new.self ≡ next reads e s = search rules in
    record { facts = facts_after reads e s (see c.finish.new.self) c.args.self.now.facts state }
