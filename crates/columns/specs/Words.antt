-- The words of calls and requests.
use Rattle.std.specs.Prelude.{ℕ, List, Some, None, ◌++◌, cond, codes, decimal, Option}
use Rattle.telegram.specs.Format.{OrderValue, OrderValue.authority, OrderValue.level, OrderValue.text, OrderValue.withdrawal, OrderValue.stop, OrderValue.sign, OrderValue.permission}
use Rattle.telegram.specs.Modes.{mode_name}
use Rattle.cab_unit.specs.Events.{Event, Event.cycle, Event.press, Event.order, Event.take}
use Rattle.driver_desk.specs.Words.{request_words}
use Rattle.driver_desk.specs.declared.request.Request.{Request}

-- an order as the lines of a call list have it, without the word order and without the words of a text
abbrev pub order_words : OrderValue → List ℕ
order_words (authority m) = codes "authority " ++ mode_name m
order_words (level n) = codes "level " ++ decimal n
order_words (text n w t) = codes "text " ++ (decimal n ++ (codes " " ++ cond w (codes "wanted") (codes "shown")))
order_words (withdrawal n) = codes "withdraw " ++ decimal n
order_words stop = codes "stop"
order_words sign = codes "sign"
order_words permission = codes "permission"

-- a call as it stands in a row
abbrev pub call_words : Event → List ℕ
call_words (cycle block) = codes "cycle"
call_words (press n) = codes "press " ++ decimal n
call_words (order o) = order_words o
call_words (take t) = codes "take"

-- a request, or - for none
abbrev pub request_column : Option Request → List ℕ
request_column None = codes "-"
request_column (Some r) = request_words r

-- a speed in whole km/h, or ? where it is unknown
abbrev pub speed_column : Option ℕ → List ℕ
speed_column None = codes "?"
speed_column (Some v) = decimal v
