-- What an answer says of its call.
use Rattle.std.specs.Prelude.{Bool, not, is_some}
use Rattle.driver_desk.specs.declared.answer.Answer.{Answer}

abbrev pub is_accepted : Answer → Bool
is_accepted a = not (is_some a.outcome)
