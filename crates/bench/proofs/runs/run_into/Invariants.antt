use Rattle.std.proofs.Common.{◌≡◌, ◌++◌, map, take, drop}
use Rattle.cab_unit.specs.Events.{said}
use Rattle.bench.specs.Runs.{after, answers, speeds}
use Rattle.cab_unit.specs.Units.{state_of}
use Rattle.bench.proofs.runs.run_into.Given as goal

abbrev pub invariant-loop-i : goal.invariant-loop-i
invariant-loop-i g l =
    let e = g.E.TrainEnd in
    let s = state_of e l.unit in
    let s₀ = state_of e l.initial.unit in
    let rest = map said (drop l.i l.calls) in
    (after e.reading rest s ≡ after e.reading (map said l.calls) s₀)
    × (take l.i l.answers ++ answers e.reading rest s ≡ answers e.reading (map said l.calls) s₀)
    × (take l.i l.speeds ++ speeds e.reading rest s ≡ speeds e.reading (map said l.calls) s₀)
