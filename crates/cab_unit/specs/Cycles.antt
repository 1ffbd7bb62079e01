-- What a cycle does.
use Rattle.std.specs.Prelude.{ℕ, ◌+◌, false, cond, not, ◌&&◌, length, None, Option, ◌==◌, nat_lt}
use Rattle.telegram.specs.declared.modes.Mode.TheVariants.{Trip}
use Rattle.cab_unit.specs.Buttons.{supervised, startable}
use Rattle.cab_unit.specs.Line.{listening}
use Rattle.cab_unit.specs.Moves.{with_authority, with_silence, on_desk, entered, withdrawn_at, failing, Change, change, quiet, raising}
use Rattle.driver_desk.specs.Requests.{waits}
use Rattle.cab_unit.specs.declared.limits.TheConstants.{LONGEST_SILENCE}
use Rattle.cab_unit.specs.State.{State, standing, moving}
use Rattle.driver_desk.specs.declared.request.Class.TheVariants as class

-- one cycle more, and the block's speed
abbrev pub given : Option ℕ → State → State
given speed s = record s { cycle = s.cycle + 1; speed = speed }

-- one more silent cycle; 401 is the most that is counted
unfoldable pub counted : State → State
counted s = on_desk (λ d. with_silence (cond (listening d && nat_lt d.silence LONGEST_SILENCE) (d.silence + 1) d.silence) d) s

-- at a stand the leave to go is lost with the 401st
unfoldable pub lapsed : State → State
lapsed s = on_desk (λ d. with_authority (cond (d.silence == LONGEST_SILENCE && standing s.speed) false d.authority) d) s

-- a train that should stand and moves is held, once; a supervised one that moves without authority is tripped
unfoldable pub watched : State → Change
watched s =
    cond (moving s.speed && startable s.desk.mode && not (waits class.Hold 0 s.waiting)) (raising class.Hold 0 false s 0)
    (cond (moving s.speed && supervised s.desk.mode && not s.desk.authority) (raising class.Trip 0 false (entered Trip s) (withdrawn_at Trip s))
    (quiet s))

-- a cycle whose block means this speed; at the last cycle number the unit fails, and the block is not given
unfoldable pub cycle_change : Option ℕ → State → Change
cycle_change speed s =
    cond (nat_lt s.cycle 4294967295) (watched (lapsed (counted (given speed s))))
    (change (failing s) None None (length s.waiting))
