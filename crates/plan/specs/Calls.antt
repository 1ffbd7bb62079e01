-- Which calls a cab gets of a call list, line by line.
use Rattle.std.specs.Prelude.{ℕ, List, [], ◌∷◌, ◌++◌, map, vec_items, codes, Some, None, Option}
use Rattle.std.specs.Borrow.{Bor}
use Rattle.telegram.specs.Format.{value_of}
use Rattle.telegram.specs.Whole.{PlacedValue, WholeValue, read_whole}
use Rattle.driver_desk.specs.Records.{record_of, record_refusal}
use Rattle.driver_desk.specs.declared.refusal.Refusal.{Refusal}
use Rattle.driver_desk.specs.declared.train_record.TrainRecord.{TrainRecord}
use Rattle.cab_unit.specs.Events.{Event, Event.cycle, Event.order, Event.press, Event.take, said}
use Rattle.call_list.specs.declared.entry.Entry.{Entry}
use Rattle.call_list.specs.declared.entry.Entry.TheVariants.{Cycle, Telegram, Press, Record, Order}
use Rattle.call_list.specs.declared.listed.Listed.{Listed}
use Rattle.plan.specs.declared.cab.Cab.{Cab}
use Rattle.plan.specs.declared.cab.Cab.TheVariants.{Bus, Pulse}
use Rattle.plan.specs.declared.lists.Plan.{Plan}

abbrev pub cab_name : Cab → List ℕ
cab_name Bus = codes "bus"
cab_name Pulse = codes "pulse"

-- the block of a cycle that is a cab's own
abbrev pub block_for : Cab → List ℕ → List ℕ → List ℕ
block_for Bus bus pulse = bus
block_for Pulse bus pulse = pulse

-- a telegram gives its orders, up to its end or its first fault
abbrev pub order_call : PlacedValue → Event
order_call p = order p.what

abbrev pub telegram_calls : WholeValue → List Event
telegram_calls w = map order_call w.orders

-- a record gives its taking where none of its numbers is refused
abbrev pub record_calls : Option Refusal → TrainRecord → List Event
record_calls None t = take t ∷ []
record_calls (Some refusal) t = []

-- the calls of one line
abbrev pub entry_calls : Cab → Entry → List Event
entry_calls cab (Cycle bus pulse) = cycle (block_for cab (vec_items bus) (vec_items pulse)) ∷ []
entry_calls cab (Telegram bytes) = telegram_calls (read_whole (vec_items bytes))
entry_calls cab (Press n) = press n ∷ []
entry_calls cab (Record d l p v) = record_calls (record_refusal (record_of d l p v)) (record_of d l p v)
entry_calls cab (Order o) = order (value_of o) ∷ []

-- the calls of a list
abbrev pub calls_for : Cab → List Listed → List Event
calls_for cab [] = []
calls_for cab (l ∷ ls) = entry_calls cab l.entry ++ calls_for cab ls

-- what the calls of a plan ask
abbrev pub planned : Plan → List Event
planned p = map said (vec_items p.calls)

-- the second list where there is one, else the first
abbrev pub list_or : List Listed → Option (Bor (List Listed)) → List Listed
list_or first None = first
list_or first (Some second) = second.now
