use Rattle.bench.proofs.Both.{defined_laws}
use Rattle.bench.proofs.runs.run_lent.Goals as goal

pub returns-clause-laws : goal.returns-clause-laws
returns-clause-laws g c = defined_laws (record { one = _; other = _ }) (c.run.ensures.run, c.run-2.ensures.run)
