-- A cab before and after its run, by what its train end means.
use Rattle.std.specs.Prelude.{◌≡◌, ◌==◌, Bool, ◌&&◌, map, length, vec_items, vec_len}
use Rattle.train_end.specs.declared.end.TrainEnd.{Ghosts as EndMeaning}
use Rattle.cab_unit.specs.Events.{said}
use Rattle.cab_unit.specs.Steps.{answer_on}
use Rattle.cab_unit.specs.Units.{state_of}
use Rattle.driver_desk.specs.declared.answer.Answer.{Answer}
use Rattle.bench.specs.Both.{TwoRuns}
use Rattle.bench.specs.Runs.{Run}
use Rattle.bench.specs.declared.runs.Ready.{Ready}
use Rattle.bench.specs.declared.runs.Ran.{Ran}

-- there is a place for the answer to each call, and for the speed after it
abbrev pub has_room : {E : Type 0} → Ready E → Bool
has_room c = vec_len c.answers == length c.calls.now && vec_len c.speeds == length c.calls.now

-- the run of a cab that was ready
abbrev pub run_by : {E : Type 0} → EndMeaning E → Ready E → Ran E → Run
run_by meaning c ran = record {
  reads = meaning.reading;
  before = meaning.speed_of c.end;
  calls = map said ran.calls.now;
  answers = vec_items ran.answers;
  speeds = vec_items ran.speeds;
  last = state_of meaning ran.unit;
}

abbrev pub runs : {E F : Type 0} → EndMeaning E → EndMeaning F → Ready E → Ready F → Ran E × Ran F → TwoRuns
runs one other c d ran = record { one = run_by one c ran.0; other = run_by other d ran.1 }

-- what the units showed when they were switched on
abbrev pub ShownOn : TwoRuns → Answer → Answer → Type 0
ShownOn rs a b = (a ≡ answer_on rs.one.before) × (b ≡ answer_on rs.other.before)
