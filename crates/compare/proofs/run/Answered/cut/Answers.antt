use Rattle.std.proofs.Common.{rules}
use Rattle.std.proofs.lemmas.List.{take-map}
use Rattle.compare.proofs.run.Answered.cut.Goals as goal

pub returns-clause-calls : goal.returns-clause-calls
returns-clause-calls c = search (rules, take-map)
