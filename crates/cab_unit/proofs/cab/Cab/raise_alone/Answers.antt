use Rattle.cab_unit.proofs.Room.{alone_room, alone_fresh}
use Rattle.cab_unit.proofs.cab.Cab.raise_alone.Goals as goal

pub raise-requires : goal.raise-requires
raise-requires g c = record { room = alone_room c.args.class _ c.requires; fresh = alone_fresh c.args.class c.args.number _ c.requires }
