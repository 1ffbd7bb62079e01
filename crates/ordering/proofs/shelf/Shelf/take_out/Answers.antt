use Rattle.std.proofs.Common.{rules}
use Rattle.std.proofs.lemmas.List.{length-take}
use Rattle.std.proofs.lemmas.Option.{slice_get_within, get_or_from_slice_get}
use Rattle.ordering.proofs.Shifting.{gap_closed}
use Rattle.ordering.proofs.shelf.Shelf.take_out.Goals as goal

pub returns-clause-cases : goal.returns-clause-cases
returns-clause-cases g c =
    let m = c.args.self.now in
    let moved = c.copy_within.ensures.by_index in (
      search (rules, slice_get_within, length-take),
      search (rules, get_or_from_slice_get),
      gap_closed m.run.now c.copy_within.new.self m.count c.args.position m.within c.copy_within.ensures.len (search (rules, slice_get_within, length-take)) moved.0 moved.1,
    )
