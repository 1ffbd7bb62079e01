use Rattle.std.proofs.Common.{◌≡◌, ◌++◌, map, drop}
use Rattle.cab_unit.specs.Events.{said}
use Rattle.messages.specs.Shown.{messages_from, messages_of}
use Rattle.messages.specs.Texts.{words}
use Rattle.messages.specs.View.{view}
use Rattle.messages.proofs.run.top_messages.Given as goal

abbrev pub invariant-loop-place : goal.invariant-loop-place
invariant-loop-place l =
    let es = map said l.calls in
    map words l.tops.items ++ messages_from (view es l.messages) (drop l.place es) (drop l.place l.answers) ≡ messages_of es l.answers
