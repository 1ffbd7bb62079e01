-- Texts that come one after another: what a window shows behind them, in whatever order they came.
use Rattle.std.specs.Prelude.{◌≡◌, ℕ, ◌+◌, ◌≤◌, true, false, not, List, [], ◌∷◌, length, filter, ◌==◌}
use Rattle.std.specs.List.{AllByRecursion, list_any}
use Rattle.ordering.specs.Shuffle.{Shuffle}
use Rattle.telegram.specs.Format.{OrderValue, OrderValue.authority, OrderValue.level, OrderValue.text, OrderValue.withdrawal, OrderValue.stop, OrderValue.sign, OrderValue.permission}
use Rattle.cab_unit.specs.Events.{Event, Event.cycle, Event.order, Event.press, Event.take, is_text}
use Rattle.cab_unit.specs.Facts.{Rising}
use Rattle.messages.specs.Shown.{ShownLine, shown_before, Display, with_order, top}
use Rattle.messages.specs.Standing.{LinesDiffer}

-- the number of a text; of any other call none is told
abbrev pub order_text_number : OrderValue → ℕ
order_text_number (authority m) = 0
order_text_number (level l) = 0
order_text_number (text n wanted t) = n
order_text_number (withdrawal n) = 0
order_text_number stop = 0
order_text_number sign = 0
order_text_number permission = 0

abbrev pub text_number : Event → ℕ
text_number (cycle block) = 0
text_number (order o) = order_text_number o
text_number (press n) = 0
text_number (take t) = 0

-- the window behind a text that was accepted
abbrev pub after_text : Event → Display → Display
after_text (cycle block) d = d
after_text (order o) d = with_order o d
after_text (press n) d = d
after_text (take t) d = d

abbrev pub after_texts : List Event → Display → Display
after_texts [] d = d
after_texts (e ∷ es) d = after_texts es (after_text e d)

-- no two of the texts have one number
abbrev pub NumbersDiffer : List Event → Type 0
NumbersDiffer [] = Unit {0}
NumbersDiffer (e ∷ es) = AllByRecursion (λ f. (text_number e == text_number f) ≡ false) es × NumbersDiffer es

-- the lines that stand of none of the texts' numbers
abbrev pub others : List Event → List ShownLine → List ShownLine
others es ls = filter (λ l. not (list_any (λ e. text_number e == l.number) es)) ls

-- the numbers of the texts differ from each other, and behind them at most twelve lines stand
abbrev pub Fits : List Event → Display → Type 0
Fits es d = NumbersDiffer es × (length (others es d.lines) + length es ≤ 12)

-- two windows that hold the same lines, no two of one number, to which the same texts come, in whatever order:
-- where the texts fit, both show the same words on top behind them, and hold the same lines again
abbrev pub StretchLaw : Type 0
StretchLaw = (d : Display) (es fs : List Event) → Rising shown_before d.lines → LinesDiffer d.lines → AllByRecursion (λ e. is_text e ≡ true) es → Shuffle es fs → Fits es d →
    (top (after_texts es d).lines ≡ top (after_texts fs d).lines) × (after_texts es d ≡ after_texts fs d)
