use Rattle.std.proofs.Common.{arith}
use Rattle.driver_desk.specs.Requests.{before}
use Rattle.cab_unit.proofs.Places.{length-sorted}
use Rattle.cab_unit.proofs.waiting.Waiting.len.Goals as goal

pub returns : goal.returns
returns c = simp (length-sorted before) (omega arith)
