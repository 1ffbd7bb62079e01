use Rattle.std.proofs.Common.{map}
use Rattle.cab_unit.specs.Events.{said}
use Rattle.messages.specs.Texts.{words}
use Rattle.compare.specs.Compared.{sampled}
use Rattle.compare.specs.Marks.{kept, shown_kept}
use Rattle.compare.proofs.Tallying.{SoFar}
use Rattle.compare.proofs.verdict.tally_places.Given as goal

abbrev pub invariant-loop-i : goal.invariant-loop-i
invariant-loop-i l =
    record {
      speeds : SoFar l.i (sampled (map said l.one.calls.now) (map said l.other.calls.now)) l.one.speeds.now l.other.speeds.now l.speeds;
      answers : SoFar l.i (kept l.marks) l.one.answers.now l.other.answers.now l.answers;
      messages : SoFar l.i (shown_kept l.marks) (map words l.messages) (map words l.other_messages) l.shown;
    }
