use Rattle.std.proofs.Common.{rules}
use Rattle.telegram.proofs.Standing.{answer_stands}
use Rattle.telegram.proofs.reader.Reader.next.Goals as goal

pub returns-in_err-read-clause-law : goal.returns-in_err-read-clause-law
returns-in_err-read-clause-law c =
    answer_stands c.args.self.now.telegram.now c.args.self.now.place _ (search rules)

pub returns-clause-law : goal.returns-clause-law
returns-clause-law c =
    answer_stands c.args.self.now.telegram.now c.args.self.now.place _ (search rules)
