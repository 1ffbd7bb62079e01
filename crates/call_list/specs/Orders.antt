-- An order that comes from no telegram: its name, and the words after it.
use Rattle.std.specs.Prelude.{◌≡◌, ℕ, Bool, true, false, cond, List, [], Ok, Err, codes, Result}
use Rattle.std.specs.Option.{ok_or}
use Rattle.std.specs.Str.{bytes_eq}
use Rattle.telegram.specs.Format.{OrderValue, authority, level, text, withdrawal, stop, sign, permission, value_of}
use Rattle.telegram.specs.declared.modes.Mode.{Mode}
use Rattle.telegram.specs.declared.orders.Order.{Order}
use Rattle.call_list.specs.Faults.{then, barring}
use Rattle.call_list.specs.Modes.{mode_of}
use Rattle.call_list.specs.Numbers.{number_wanted}
use Rattle.call_list.specs.Words.{word_of, after_word, is_empty, count_fault}
use Rattle.call_list.specs.declared.entry.Wrong.{Wrong}
use Rattle.call_list.specs.declared.entry.Wrong.TheVariants.{MissingWord, UnknownOrder, UnknownMode, NeitherWantedNorShown}
use Rattle.call_list.specs.declared.order.OrderName.{OrderName}
use Rattle.call_list.specs.declared.order.OrderName.TheVariants.{Authority, Level, Text, Withdraw, Stop, Permission, Sign}

abbrev pub name_of : List ℕ → Result OrderName Wrong
name_of word =
    cond (is_empty word) (Err MissingWord)
    (cond (bytes_eq word (codes "authority")) (Ok Authority)
    (cond (bytes_eq word (codes "level")) (Ok Level)
    (cond (bytes_eq word (codes "text")) (Ok Text)
    (cond (bytes_eq word (codes "withdraw")) (Ok Withdraw)
    (cond (bytes_eq word (codes "stop")) (Ok Stop)
    (cond (bytes_eq word (codes "permission")) (Ok Permission)
    (cond (bytes_eq word (codes "sign")) (Ok Sign)
    (Err UnknownOrder))))))))

-- how many words stand after the name
abbrev pub words_after : OrderName → ℕ
words_after Authority = 1
words_after Level = 1
words_after Text = 2
words_after Withdraw = 1
words_after Stop = 0
words_after Permission = 0
words_after Sign = 0

abbrev pub mode_wanted : List ℕ → Result Mode Wrong
mode_wanted word = ok_or (mode_of word) UnknownMode

abbrev pub wanted_of : List ℕ → Result Bool Wrong
wanted_of word =
    cond (bytes_eq word (codes "wanted")) (Ok true)
    (cond (bytes_eq word (codes "shown")) (Ok false)
    (Err NeitherWantedNorShown))

-- the order with a name and the right number of words after it; a text has no bytes
abbrev pub order_with : OrderName → List ℕ → Result OrderValue Wrong
order_with Authority rest = then (mode_wanted (word_of rest)) (λ m. Ok (authority m))
order_with Level rest = then (number_wanted 255 (word_of rest)) (λ n. Ok (level n))
order_with Text rest = then (number_wanted 255 (word_of rest)) (λ n. then (wanted_of (word_of (after_word rest))) (λ w. Ok (text n w [])))
order_with Withdraw rest = then (number_wanted 255 (word_of rest)) (λ n. Ok (withdrawal n))
order_with Stop rest = Ok stop
order_with Permission rest = Ok permission
order_with Sign rest = Ok sign

abbrev pub order_of : List ℕ → Result OrderValue Wrong
order_of rest =
    then (name_of (word_of rest)) (λ name. barring (count_fault (words_after name) (after_word rest)) (order_with name (after_word rest)))

-- an order is read, or the fault says how it is wrong
abbrev pub ReadsOrder : Result OrderValue Wrong → Result Order Wrong → Type 0
ReadsOrder value (Ok order) = value ≡ Ok (value_of order)
ReadsOrder value (Err w) = value ≡ Err w
