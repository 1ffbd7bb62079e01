-- How the rows of a list stand to its calls, and the calls of one cab to those of the other.
use Rattle.std.specs.Prelude.{◌≡◌, Bool, true, false, List, map, length, count_by}
use Rattle.cab_unit.specs.Events.{unblocked}
use Rattle.call_list.specs.declared.listed.Listed.{Listed}
use Rattle.plan.specs.Calls.{calls_for}
use Rattle.plan.specs.Rows.{rows_for}
use Rattle.plan.specs.declared.cab.Cab.{Cab}
use Rattle.plan.specs.declared.cab.Cab.TheVariants.{Bus, Pulse}
use Rattle.plan.specs.declared.rows.Row.{Row}
use Rattle.plan.specs.declared.rows.Told.{Told}
use Rattle.plan.specs.declared.rows.Told.TheVariants as tells

abbrev pub is_of_call : Told → Bool
is_of_call (tells.Call places) = true
is_of_call (tells.Note n) = false

-- as many rows tell of a call as there are calls
abbrev pub OneCallEach : Type 0
OneCallEach = (cab : Cab) (ls : List Listed) → count_by (λ (r : Row). is_of_call r.told) (rows_for ls) ≡ length (calls_for cab ls)

-- what one list asks of the two cabs is the same up to the blocks of the cycles
abbrev pub SameButBlocks : Type 0
SameButBlocks = (ls : List Listed) → map unblocked (calls_for Bus ls) ≡ map unblocked (calls_for Pulse ls)
