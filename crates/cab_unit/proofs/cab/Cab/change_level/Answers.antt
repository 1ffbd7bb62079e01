use Rattle.std.proofs.Common.{rules}
use Rattle.telegram.specs.declared.modes.Mode.TheVariants.{StaffResponsible, Unfitted}
use Rattle.cab_unit.specs.Places.{ordered}
use Rattle.driver_desk.specs.declared.request.Class.TheVariants as class
use Rattle.cab_unit.proofs.Alone.{entered-unasked, withdrawn-none}
use Rattle.cab_unit.proofs.cab.Cab.change_level.Goals as goal

pub raise_alone-request-requires : goal.raise_alone-request-requires
raise_alone-request-requires g c = entered-unasked Unfitted _ _ c.enter-modes.ensures.state (c.requires.fitted (search rules))

pub raise_alone-request-requires-then-eq-2 : goal.raise_alone-request-requires-then-eq-2
raise_alone-request-requires-then-eq-2 g c =
    entered-unasked StaffResponsible _ _ c.enter-modes-then-eq-2.ensures.state (c.requires.responsible (search rules))

pub raise_alone-request-requires-else-eq-2 : goal.raise_alone-request-requires-else-eq-2
raise_alone-request-requires-else-eq-2 g c = withdrawn-none class.Level (ordered c.args.self.now.waiting.items) _ c.withdraw_class-levels.ensures.rest
