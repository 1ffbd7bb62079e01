-- What a unit means.
use Rattle.std.specs.Prelude.{ℕ, Bool, false, List, Some, None, Option, ◌==◌, nat_le, nat_lt}
use Rattle.train_end.specs.declared.brake_line.BrakeLine.{BrakeLine}
use Rattle.cab_unit.specs.declared.desk.Desk.{Desk}
use Rattle.cab_unit.specs.declared.limits.TheConstants.{OVERRIDE_SPEED}
use Rattle.driver_desk.specs.declared.request.Request.{Request}
use Rattle.driver_desk.specs.declared.train_record.TrainRecord.{TrainRecord}

-- speed and line are those of the unit's train end
pub record State : Type 0 where
  pub desk : Desk
  pub train : Option TrainRecord
  pub cycle : ℕ
  pub waiting : List Request
  pub speed : Option ℕ
  pub line : BrakeLine

-- speed known and 0; known and above 0; known and not above that of Override
abbrev pub standing : Option ℕ → Bool
standing None = false
standing (Some v) = v == 0

abbrev pub moving : Option ℕ → Bool
moving None = false
moving (Some v) = nat_lt 0 v

abbrev pub crawling : Option ℕ → Bool
crawling None = false
crawling (Some v) = nat_le v OVERRIDE_SPEED
