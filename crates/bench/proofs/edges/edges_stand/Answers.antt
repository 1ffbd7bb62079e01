use Rattle.std.proofs.Common.{refl}
use Rattle.cab_unit.specs.Buttons.{enabled, buttons_of}
use Rattle.cab_unit.specs.Cycles.{counted, lapsed, watched, cycle_change}
use Rattle.cab_unit.specs.Line.{settled}
use Rattle.cab_unit.specs.Orders.{authority_change, level_change}
use Rattle.cab_unit.specs.Presses.{acknowledge_change, start_change, close_change, press_change}
use Rattle.bench.proofs.edges.edges_stand.Goals as goal

pub returns : goal.returns
unfolding enabled buttons_of counted lapsed watched cycle_change settled authority_change level_change acknowledge_change start_change close_change press_change
returns c = record {
  edges = (refl, refl, refl, refl, refl, refl, refl, refl, refl, refl, refl, refl, refl, refl, refl, refl, refl, (refl, refl), (refl, refl, refl), (refl, refl, refl, refl, refl));
  reached = (refl, refl, refl, refl, refl);
  more = (refl, refl, refl, refl, refl, refl, refl, refl, refl, refl, refl, refl, refl, refl, refl, refl, refl);
  heard = (refl, refl, refl);
  buttons = refl;
  refusals = (refl, refl, refl, refl, refl, refl, refl, refl, refl, refl, refl, refl);
  told_first = (refl, refl, refl, refl, refl, refl, refl);
  orders = (refl, refl, refl, refl, refl, refl, refl, refl, refl, refl, refl, refl, refl, refl, refl, refl, refl, refl, refl);
  presses = (refl, refl, refl, refl, refl, refl, refl, refl, refl, refl, refl, refl);
  cycles = (refl, refl, refl, refl, refl, refl, refl, refl, refl, refl, refl);
  last = (refl, refl, refl, refl, refl, refl, refl);
  book = (refl, refl, refl, refl, refl, refl, refl, refl, refl, refl, refl, refl);
  entries = (refl, refl, refl, refl, refl, refl, refl);
}
