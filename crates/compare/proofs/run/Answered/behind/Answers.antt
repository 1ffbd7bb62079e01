use Rattle.std.proofs.Common.{rules}
use Rattle.std.proofs.lemmas.List.{drop-map, take_rest}
use Rattle.compare.proofs.run.Answered.behind.Goals as goal

pub returns-clause-calls : goal.returns-clause-calls
returns-clause-calls c = search (rules, drop-map, take_rest)
