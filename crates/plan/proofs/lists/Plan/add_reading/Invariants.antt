use Rattle.std.proofs.Common.{◌≡◌, ◌++◌, map, take, vec_items}
use Rattle.telegram.specs.Whole.{placed_of}
use Rattle.plan.specs.Calls.{order_call, planned}
use Rattle.plan.specs.Rows.{at_line, order_row}
use Rattle.plan.proofs.lists.Plan.add_reading.Given as goal

-- The orders so far have their calls and rows, behind those that were there.
abbrev pub invariant-loop-placed : goal.invariant-loop-placed
invariant-loop-placed l =
    (planned l.self ≡ planned l.initial.self ++ map order_call (map placed_of (take l.placed-index (vec_items l.reading.orders))))
    × (vec_items l.self.rows ≡ vec_items l.initial.self.rows ++ map (at_line l.line) (map order_row (map placed_of (take l.placed-index (vec_items l.reading.orders)))))
