-- What is wrong with a line: its words, and how it comes before a value.
use Rattle.std.specs.Prelude.{ℕ, List, Some, None, Ok, Err, codes, Option, Result}
use Rattle.call_list.specs.declared.entry.Wrong.{Wrong}
use Rattle.call_list.specs.declared.entry.Wrong.TheVariants.{UnknownCall, MissingWord, ExtraWord, NotHexadecimal, NotANumber, UnknownOrder, UnknownMode, NeitherWantedNorShown}

-- what is printed of it
abbrev pub wrong_text : Wrong → List ℕ
wrong_text UnknownCall = codes "no such call"
wrong_text MissingWord = codes "a word is missing"
wrong_text ExtraWord = codes "there are words after the call's last"
wrong_text NotHexadecimal = codes "bytes are pairs of hexadecimal digits, or - for none"
wrong_text NotANumber = codes "a number is wanted, and it is not in its range"
wrong_text UnknownOrder = codes "no such order"
wrong_text UnknownMode = codes "no such mode"
wrong_text NeitherWantedNorShown = codes "a text is wanted or shown"

-- a step that goes on from a value
abbrev pub then : {T U : Type 0} → Result T Wrong → (T → Result U Wrong) → Result U Wrong
then (Err w) step = Err w
then (Ok value) step = step value

-- a value that stands only where nothing is wrong
abbrev pub barring : {T : Type 0} → Option Wrong → Result T Wrong → Result T Wrong
barring None value = value
barring (Some w) value = Err w
