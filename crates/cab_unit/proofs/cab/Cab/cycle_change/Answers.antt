use Rattle.std.proofs.Common.{refl}
use Rattle.cab_unit.specs.View.{view}
use Rattle.cab_unit.proofs.Known.{watch_room}
use Rattle.cab_unit.proofs.cab.Cab.cycle_change.Goals as goal

pub watch-requires : goal.watch-requires
watch-requires g c =
    let see = view g.E.TrainEnd in
    let room = watch_room (see c.args.self.now) _ (see c.count_silence.new.self) c.requires refl refl c.count_silence.ensures in
    record { untripped = room.0; unheld = room.1 }
