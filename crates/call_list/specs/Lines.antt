-- What a line of a call list asks for.
use Rattle.std.specs.Prelude.{◌≡◌, ℕ, Bool, true, false, cond, ◌||◌, List, Some, None, Ok, Err, vec_items, codes, Option, Result, IsOk, ◌==◌, slice_index}
use Rattle.std.specs.Str.{bytes_eq}
use Rattle.telegram.specs.Format.{OrderValue, value_of as said}
use Rattle.call_list.specs.Faults.{then, barring}
use Rattle.call_list.specs.Hex.{hex_wanted}
use Rattle.call_list.specs.Numbers.{number_wanted}
use Rattle.call_list.specs.Orders.{order_of}
use Rattle.call_list.specs.Words.{word_of, after_word, is_empty, count_fault}
use Rattle.call_list.specs.declared.entry.Entry.{Entry}
use Rattle.call_list.specs.declared.entry.Entry.TheVariants.{Cycle, Telegram, Press, Record, Order}
use Rattle.call_list.specs.declared.entry.Wrong.{Wrong}
use Rattle.call_list.specs.declared.entry.Wrong.TheVariants.{UnknownCall}
use Rattle.call_list.specs.declared.entry.LineFault.{LineFault}
use Rattle.call_list.specs.declared.entry.LineFault.TheVariants.{Bad, NoMemory}
use Rattle.call_list.specs.declared.line.Verb.{Verb}
use Rattle.call_list.specs.declared.line.Verb.TheVariants as verbs

-- a call that a line asks for
pub data CallValue : Type 0 where
  cycle : List ℕ → List ℕ → CallValue
  telegram : List ℕ → CallValue
  press : ℕ → CallValue
  draft : ℕ → ℕ → ℕ → ℕ → CallValue
  order : OrderValue → CallValue

-- an empty word begins a blank line, and # (35) a comment
abbrev pub verb_of : List ℕ → Result (Option Verb) Wrong
verb_of word =
    cond (is_empty word || slice_index word 0 == 35) (Ok None)
    (cond (bytes_eq word (codes "cycle")) (Ok (Some verbs.Cycle))
    (cond (bytes_eq word (codes "telegram")) (Ok (Some verbs.Telegram))
    (cond (bytes_eq word (codes "press")) (Ok (Some verbs.Press))
    (cond (bytes_eq word (codes "record")) (Ok (Some verbs.Record))
    (cond (bytes_eq word (codes "order")) (Ok (Some verbs.Order))
    (Err UnknownCall))))))

-- a cycle has two words, the block for the bus cab and that for the pulse cab
abbrev pub cycle_line : List ℕ → Result CallValue Wrong
cycle_line rest =
    barring (count_fault 2 rest)
    (then (hex_wanted (word_of rest)) (λ bus. then (hex_wanted (word_of (after_word rest))) (λ pulse. Ok (cycle bus pulse))))

-- a telegram has one word, its bytes
abbrev pub telegram_line : List ℕ → Result CallValue Wrong
telegram_line rest = barring (count_fault 1 rest) (then (hex_wanted (word_of rest)) (λ bytes. Ok (telegram bytes)))

-- a press has one word, the button's number
abbrev pub press_line : List ℕ → Result CallValue Wrong
press_line rest = barring (count_fault 1 rest) (then (number_wanted 255 (word_of rest)) (λ n. Ok (press n)))

abbrev pub any_number : List ℕ → Result ℕ Wrong
any_number rest = number_wanted 4294967295 (word_of rest)

-- a record has four words: driver, length, percentage and speed
abbrev pub record_of : List ℕ → List ℕ → List ℕ → List ℕ → Result CallValue Wrong
record_of first second third fourth =
    then (any_number first) (λ driver. then (any_number second) (λ length. then (any_number third) (λ percentage. then (any_number fourth) (λ speed.
    Ok (draft driver length percentage speed)))))

abbrev pub record_line : List ℕ → Result CallValue Wrong
record_line rest =
    barring (count_fault 4 rest) (record_of rest (after_word rest) (after_word (after_word rest)) (after_word (after_word (after_word rest))))

-- an order has a name, and the words that go with it
abbrev pub order_line : List ℕ → Result CallValue Wrong
order_line rest = then (order_of rest) (λ o. Ok (order o))

abbrev pub call_of : Verb → List ℕ → Result CallValue Wrong
call_of verbs.Cycle rest = cycle_line rest
call_of verbs.Telegram rest = telegram_line rest
call_of verbs.Press rest = press_line rest
call_of verbs.Record rest = record_line rest
call_of verbs.Order rest = order_line rest

abbrev pub by_verb : Option Verb → List ℕ → Result (Option CallValue) Wrong
by_verb None rest = Ok None
by_verb (Some verb) rest = then (call_of verb rest) (λ call. Ok (Some call))

-- what a line asks for: nothing, a call, or it is wrong
abbrev pub line_of : List ℕ → Result (Option CallValue) Wrong
line_of line = then (verb_of (word_of line)) (λ verb. by_verb verb (after_word line))

abbrev pub value_of : Entry → CallValue
value_of (Cycle bus pulse) = cycle (vec_items bus) (vec_items pulse)
value_of (Telegram bytes) = telegram (vec_items bytes)
value_of (Press n) = press n
value_of (Record driver length percentage speed) = draft driver length percentage speed
value_of (Order o) = order (said o)

-- a call is read, or it is wrong and the fault says how; memory is wanting only for a call
abbrev pub Reads : Result CallValue Wrong → Result Entry LineFault → Type 0
Reads value (Ok entry) = value ≡ Ok (value_of entry)
Reads value (Err (Bad w)) = value ≡ Err w
Reads value (Err NoMemory) = IsOk value

-- a line that asks for a call
abbrev pub is_call : Result (Option CallValue) Wrong → Bool
is_call (Ok None) = false
is_call (Ok (Some call)) = true
is_call (Err w) = false

-- the same of a line, which may ask for nothing
abbrev pub ReadsLine : Result (Option CallValue) Wrong → Result (Option Entry) LineFault → Type 0
ReadsLine value (Ok None) = value ≡ Ok None
ReadsLine value (Ok (Some entry)) = value ≡ Ok (Some (value_of entry))
ReadsLine value (Err (Bad w)) = value ≡ Err w
ReadsLine value (Err NoMemory) = is_call value ≡ true

-- the lines that ask for bytes: those of a cycle's blocks, or those of a telegram
abbrev pub has_bytes : Result (Option Verb) Wrong → Bool
has_bytes (Ok (Some verbs.Cycle)) = true
has_bytes (Ok (Some verbs.Telegram)) = true
has_bytes (Ok (Some verbs.Press)) = false
has_bytes (Ok (Some verbs.Record)) = false
has_bytes (Ok (Some verbs.Order)) = false
has_bytes (Ok None) = false
has_bytes (Err w) = false

-- memory is wanting only for the bytes of a line
abbrev pub WantsForBytes : List ℕ → LineFault → Type 0
WantsForBytes line (Bad w) = Unit {0}
WantsForBytes line NoMemory = has_bytes (verb_of (word_of line)) ≡ true

-- the same of a call that has no bytes: memory is not wanting there
abbrev pub ReadsEntry : Result CallValue Wrong → Result Entry Wrong → Type 0
ReadsEntry value (Ok entry) = value ≡ Ok (value_of entry)
ReadsEntry value (Err w) = value ≡ Err w
