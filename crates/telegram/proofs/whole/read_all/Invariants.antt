use Rattle.std.proofs.Common.{◌≡◌, ℕ, ◌-◌, true, List, ◌++◌, map, length, vec_items, Result}
use Rattle.telegram.specs.Reading.{read_at}
use Rattle.telegram.specs.Whole.{PlacedValue, placed_of, is_order, BeginsWithOrder}
use Rattle.telegram.proofs.Readings.{Reads}
use Rattle.telegram.specs.declared.faults.Refused.{Refused}
use Rattle.telegram.proofs.whole.read_all.Given as goal

-- What is read from here on, after the orders so far, is read from the start; where an order stands here, one stands at the start.
abbrev pub invariant-loop-placed : goal.invariant-loop-placed
invariant-loop-placed l =
    (l.reader.telegram.now ≡ l.telegram)
    × ((os : List PlacedValue) (e : Result ℕ Refused) → Reads l.telegram l.reader.place os e → Reads l.telegram 0 (map placed_of (vec_items l.orders) ++ os) e)
    × (is_order (read_at l.telegram l.reader.place) ≡ true → BeginsWithOrder l.telegram)

abbrev pub decreases-loop-placed : goal.decreases-loop-placed
decreases-loop-placed l = length l.telegram - l.reader.place
