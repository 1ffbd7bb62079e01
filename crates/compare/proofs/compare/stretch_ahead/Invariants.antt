use Rattle.std.proofs.Common.{suc, ◌-◌, length, take}
use Rattle.compare.specs.Account.{Bounded, Open}
use Rattle.compare.specs.Asked.{asked}
use Rattle.compare.specs.Walked.{Apart, Loose}
use Rattle.compare.proofs.Accounting.{Owes}
use Rattle.compare.proofs.compare.stretch_ahead.Given as goal

abbrev pub invariant-loop-key : goal.invariant-loop-key
invariant-loop-key l =
    Loose l.length (asked l.run) l.run.answers.now (asked l.other) l.other.answers.now
    × Apart (suc l.length) (asked l.run) (asked l.other)
    × Owes l.account (take l.length (asked l.run)) (take l.length (asked l.other))
    × Open l.account
    × Bounded l.length l.length l.account

abbrev pub decreases-loop-key : goal.decreases-loop-key
decreases-loop-key l = length (asked l.run) - l.length
