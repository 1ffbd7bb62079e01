-- What a call asks.
use Rattle.std.specs.Prelude.{ℕ, Bool, true, false, List, []}
use Rattle.telegram.specs.Format.{OrderValue, OrderValue.authority, OrderValue.level, OrderValue.text, OrderValue.withdrawal, OrderValue.stop, OrderValue.sign, OrderValue.permission, value_of}
use Rattle.cab_unit.specs.declared.call.Call.{Call}
use Rattle.cab_unit.specs.declared.call.Call.TheVariants.{Cycle, Order, Press, Take}
use Rattle.driver_desk.specs.declared.train_record.TrainRecord.{TrainRecord}

pub data Event : Type 0 where
  cycle : List ℕ → Event
  order : OrderValue → Event
  press : ℕ → Event
  take : TrainRecord → Event

abbrev pub said : Call → Event
said (Cycle block) = cycle block.now
said (Order o) = order (value_of o)
said (Press n) = press n
said (Take t) = take t

-- a call without the block of a cycle
abbrev pub unblocked : Event → Event
unblocked (cycle block) = cycle []
unblocked (order o) = order o
unblocked (press n) = press n
unblocked (take t) = take t

abbrev pub is_cycle : Event → Bool
is_cycle (cycle block) = true
is_cycle (order o) = false
is_cycle (press n) = false
is_cycle (take t) = false

abbrev pub is_text_order : OrderValue → Bool
is_text_order (authority m) = false
is_text_order (level l) = false
is_text_order (text n wanted t) = true
is_text_order (withdrawal n) = false
is_text_order stop = false
is_text_order sign = false
is_text_order permission = false

abbrev pub is_text : Event → Bool
is_text (cycle block) = false
is_text (order o) = is_text_order o
is_text (press n) = false
is_text (take t) = false
