-- When two calls ask the same.
use Rattle.std.specs.Prelude.{ℕ, Bool, List, map, Some, None, Option}
use Rattle.std.specs.Cmp.Lexicographic.{slice_cmp}
use Rattle.std.specs.Ordering.{ordering_then, nat_cmp, bool_cmp}
use Rattle.std.specs.declared.cmp.Ordering.{Ordering}
use Rattle.telegram.specs.Format.{OrderValue.text}
use Rattle.telegram.specs.declared.orders.Order.{Order as OrderGiven}
use Rattle.telegram.specs.declared.orders.Order.TheVariants.{Authority, Level, Text, TextWithdrawal, EmergencyStop, Sign, Permission}
use Rattle.cab_unit.specs.Events.{Event, Event.order, said}
use Rattle.cab_unit.specs.declared.call.Call.{Call}
use Rattle.cab_unit.specs.declared.call.Call.TheVariants.{Cycle, Order, Press, Take}
use Rattle.compare.specs.declared.asked.TextKey.{TextKey}
use Rattle.compare.specs.declared.run.Answered.{Answered}

-- what the calls of a run ask
abbrev pub asked : Answered → List Event
asked r = map said r.calls.now

-- the text order that a key says: its number, whether it wants to be acknowledged, its bytes
abbrev pub keyed : TextKey → Event
keyed k = order (text k.number k.wanted k.text.now)

-- what a text order says, as a key
abbrev pub order_key : OrderGiven → Option TextKey
order_key (Authority m) = None
order_key (Level l) = None
order_key (Text n w t) = Some (record { number = n; wanted = w; text = t })
order_key (TextWithdrawal n) = None
order_key EmergencyStop = None
order_key Sign = None
order_key Permission = None

abbrev pub text_key : Call → Option TextKey
text_key (Cycle block) = None
text_key (Order o) = order_key o
text_key (Press n) = None
text_key (Take t) = None

-- a text by its number, whether it wants to be acknowledged, and its bytes
abbrev pub Words : Type 0
Words = ℕ × (Bool × List ℕ)

abbrev pub words : TextKey → Words
words k = (k.number, (k.wanted, k.text.now))

-- the order in which keys are sorted: by the number, then false before true, then by the bytes
abbrev pub by_words : Words → Words → Ordering
by_words x y = ordering_then (nat_cmp x.0 y.0) (ordering_then (bool_cmp x.1.0 y.1.0) (slice_cmp nat_cmp x.1.1 y.1.1))

abbrev pub by_key : TextKey → TextKey → Ordering
by_key k l = by_words (words k) (words l)
