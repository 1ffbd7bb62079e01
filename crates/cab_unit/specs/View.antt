-- What the code's own structs mean.
use Rattle.std.specs.Prelude.{ℕ, List, None, Option}
use Rattle.train_end.specs.declared.end.TrainEnd.{Ghosts as EndMeaning}
use Rattle.train_end.specs.declared.brake_line.BrakeLine.TheVariants.{Emergency}
use Rattle.cab_unit.specs.Moves.{Change}
use Rattle.cab_unit.specs.Places.{ordered}
use Rattle.cab_unit.specs.State.{State}
use Rattle.cab_unit.specs.declared.cab.Cab.{Cab}
use Rattle.cab_unit.specs.declared.cab.Done.{Done}
use Rattle.cab_unit.specs.declared.desk.Desk.{Desk}
use Rattle.driver_desk.specs.declared.request.Request.{Request}

-- the state of a cab, on an end of which this is the meaning
abbrev pub view : {E : Type 0} → EndMeaning E → Cab E → State
view meaning u = record {
  desk = u.desk;
  train = u.train;
  cycle = u.cycle;
  waiting = ordered u.waiting.items;
  speed = meaning.speed_of u.end;
  line = meaning.line_of u.end;
}

-- what an answer tells of a change
abbrev pub done_of : Change → Done
done_of h = record { raised = h.raising; ended = h.ended; withdrawn = h.withdrawn }

abbrev pub done : Option Request → Option Request → ℕ → Done
done r e n = record { raised = r; ended = e; withdrawn = n }

-- a state with this desk and these requests; what the facts speak of is there, and the rest is of no account
abbrev pub bare : Desk → List Request → State
bare d l = record { desk = d; train = None; cycle = 0; waiting = l; speed = None; line = Emergency }
