use Rattle.std.proofs.Common.{◌≡◌, ◌++◌, drop, vec_items}
use Rattle.plan.specs.Calls.{calls_for, planned}
use Rattle.plan.specs.Rows.{rows_for}
use Rattle.plan.proofs.lists.plan_list.Given as goal

-- What is planned so far, with what the lines to come ask, is what the list asks.
abbrev pub invariant-loop-one : goal.invariant-loop-one
invariant-loop-one l =
    (planned l.plan ++ calls_for l.cab (drop l.one-index l.listed) ≡ calls_for l.cab l.listed)
    × (vec_items l.plan.rows ++ rows_for (drop l.one-index l.listed) ≡ rows_for l.listed)
