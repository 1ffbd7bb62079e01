use Rattle.std.proofs.Common.{arith, rules}
use Rattle.call_list.proofs.Decimals.{number_within, number_written}
use Rattle.call_list.proofs.numbers.number.Goals as goal

pub returns-then-is_empty-clause-written : goal.returns-then-is_empty-clause-written
returns-then-is_empty-clause-written c = number_written _ _ _ (omega arith) (search rules)

pub returns-clause-within : goal.returns-clause-within
returns-clause-within c = number_within _ c.args.word.now _ (search rules)

pub returns-clause-written : goal.returns-clause-written
returns-clause-written c = number_written _ _ _ (omega arith) (search rules)
