-- What is set by rule when a unit is switched on and behind each accepted call: silence, then the brake line.
use Rattle.std.specs.Prelude.{Bool, cond, not, ◌&&◌, ◌||◌, is_some, ◌==◌}
use Rattle.telegram.specs.declared.modes.Mode.TheVariants.{FullSupervision, OnSight, Trip, SystemFailure}
use Rattle.train_end.specs.declared.brake_line.BrakeLine.{BrakeLine}
use Rattle.train_end.specs.declared.brake_line.BrakeLine.TheVariants.{Released, Service, Emergency}
use Rattle.cab_unit.specs.Moves.{with_silence, on_desk}
use Rattle.driver_desk.specs.Numbers.{is_mode, is_level}
use Rattle.driver_desk.specs.Requests.{waits, any_overdue}
use Rattle.cab_unit.specs.State.{State}
use Rattle.cab_unit.specs.declared.limits.TheConstants.{LONGEST_SILENCE}
use Rattle.cab_unit.specs.declared.desk.Desk.{Desk}
use Rattle.driver_desk.specs.declared.level.Level.TheVariants.{Two}
use Rattle.driver_desk.specs.declared.request.Class.TheVariants as class

-- the line side is watched: leave by radio, in a mode that rests on it
abbrev pub listening : Desk → Bool
listening d = is_level d.level Two && (is_mode d.mode FullSupervision || is_mode d.mode OnSight) && d.authority

-- elsewhere it is 0
abbrev pub quieted : Desk → Desk
quieted d = with_silence (cond (listening d) d.silence 0) d

-- the causes of the emergency brake, and those of the service brake; the stronger wins
abbrev pub line_rule : State → BrakeLine
line_rule s =
    cond (is_mode s.desk.mode Trip || is_mode s.desk.mode SystemFailure) Emergency
    (cond (any_overdue s.cycle s.waiting || waits class.Hold 0 s.waiting || s.desk.silence == LONGEST_SILENCE || not (is_some s.speed)) Service
    Released)

unfoldable pub settled : State → State
settled s = record s {
  desk = quieted s.desk;
  line = line_rule (on_desk quieted s);
}
