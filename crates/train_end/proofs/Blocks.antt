-- Blocks that mean a given speed.
use Rattle.std.proofs.Common.{◌+◌, ◌/◌, ◌%◌, arith}
use Rattle.std.proofs.lemmas.Bool.Decides.{nat_tests}
use Rattle.train_end.specs.Bus.{EverySpeedHasABlock}

-- the valid bit set, no filler, and the speed in the ten bits below
pub every_speed_has_a_block : EverySpeedHasABlock
every_speed_has_a_block speed low =
    (128 + speed / 256, speed % 256, omega arith, omega arith, grind (arith, nat_tests))
