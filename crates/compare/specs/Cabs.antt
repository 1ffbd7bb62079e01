-- Two cabs that were run and compared.
use Rattle.train_end.specs.declared.end.TrainEnd.{Ghosts as EndMeaning}
use Rattle.bench.specs.Both.{TwoRuns}
use Rattle.bench.specs.View.{runs}
use Rattle.bench.specs.declared.runs.Ready.{Ready}
use Rattle.compare.specs.declared.cabs.Compared.{Compared}

-- the runs of both
abbrev pub ran : {E F : Type 0} → EndMeaning E → EndMeaning F → Ready E → Ready F → Compared E F → TwoRuns
ran one other c d both = runs one other c d (both.one, both.other)
