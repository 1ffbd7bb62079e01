use Rattle.messages.proofs.Runs.{standing_law}
use Rattle.messages.proofs.Stretch.{stretch_law}
use Rattle.messages.proofs.laws.messages_stand.Goals as goal

pub returns-clause-standing : goal.returns-clause-standing
returns-clause-standing c = standing_law

pub returns-clause-stretch : goal.returns-clause-stretch
returns-clause-stretch c = stretch_law
