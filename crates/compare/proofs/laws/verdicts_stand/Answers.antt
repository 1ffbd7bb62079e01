use Rattle.compare.proofs.Unique.{one_verdict, one_tally}
use Rattle.compare.proofs.laws.verdicts_stand.Goals as goal

pub returns : goal.returns
returns c = record { likeness = one_verdict; tallies = one_tally }
