use Rattle.std.proofs.Common.{◌≡◌, ◌≤◌, drop}
use Rattle.call_list.specs.Numbers.{digits_value}
use Rattle.call_list.proofs.numbers.digits_value.Given as goal

abbrev pub invariant-loop-b : goal.invariant-loop-b
invariant-loop-b l = (l.value ≤ l.limit) × (digits_value l.limit l.value (drop l.b-index l.word) ≡ digits_value l.limit 0 l.word)
