-- The words of a text.
use Rattle.std.specs.Prelude.{ℕ, zero, suc, Bool, cond, not, ◌||◌, List, length, take, drop, Some, None, Option, ◌==◌}
use Rattle.std.specs.List.{position_or_len}
use Rattle.call_list.specs.declared.entry.Wrong.{Wrong}
use Rattle.call_list.specs.declared.entry.Wrong.TheVariants.{MissingWord, ExtraWord}

-- a space, a tab or a carriage return
abbrev pub is_blank : ℕ → Bool
is_blank b = b == 32 || b == 9 || b == 13

abbrev pub is_printing : ℕ → Bool
is_printing b = not (is_blank b)

abbrev pub is_break : ℕ → Bool
is_break b = b == 10

abbrev pub from_word : List ℕ → List ℕ
from_word text = drop (position_or_len is_printing text) text

-- the first word of a text, empty where there is none
abbrev pub word_of : List ℕ → List ℕ
word_of text = take (position_or_len is_blank (from_word text)) (from_word text)

-- what stands after it
abbrev pub after_word : List ℕ → List ℕ
after_word text = drop (position_or_len is_blank (from_word text)) (from_word text)

abbrev pub is_empty : List ℕ → Bool
is_empty word = length word == 0

-- what is wrong with the number of words, where n are wanted
abbrev pub count_fault : ℕ → List ℕ → Option Wrong
count_fault zero rest = cond (is_empty (word_of rest)) None (Some ExtraWord)
count_fault (suc n) rest = cond (is_empty (word_of rest)) (Some MissingWord) (count_fault n (after_word rest))
