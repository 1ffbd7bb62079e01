use Rattle.std.proofs.Common.{rules}
use Rattle.cab_unit.proofs.Alone.{entered-unasked}
use Rattle.cab_unit.proofs.cab.Cab.go_on_in.Goals as goal

pub raise_alone-request-requires : goal.raise_alone-request-requires
raise_alone-request-requires g c = entered-unasked c.args.mode _ _ c.enter-withdrawn.ensures.state (search rules)
