-- The words of the texts in a run of calls.
use Rattle.std.specs.Prelude.{ℕ, List, [], Some, None, Option, slice_get}
use Rattle.std.specs.Borrow.{Bor}
use Rattle.telegram.specs.Format.{OrderValue, OrderValue.authority, OrderValue.level, OrderValue.text, OrderValue.withdrawal, OrderValue.stop, OrderValue.sign, OrderValue.permission}
use Rattle.cab_unit.specs.Events.{Event, Event.cycle, Event.order, Event.press, Event.take}

-- the words of a text; any other call has none
abbrev pub order_words : OrderValue → List ℕ
order_words (authority m) = []
order_words (level l) = []
order_words (text n wanted t) = t
order_words (withdrawal n) = []
order_words stop = []
order_words sign = []
order_words permission = []

abbrev pub words_of : Event → List ℕ
words_of (cycle block) = []
words_of (order o) = order_words o
words_of (press n) = []
words_of (take t) = []

abbrev pub words_at : Option Event → List ℕ
words_at None = []
words_at (Some e) = words_of e

-- the words of the call at a place; none where there is no call
abbrev pub text_at : List Event → ℕ → List ℕ
text_at es k = words_at (slice_get es k)

-- the words that are lent
abbrev pub words : Option (Bor (List ℕ)) → Option (List ℕ)
words None = None
words (Some t) = Some t.now
