-- What a whole call list says.
use Rattle.std.specs.Prelude.{◌≡◌, ℕ, ◌+◌, Bool, true, false, cond, ◌&&◌, ◌||◌, List, [], ◌∷◌, ◌++◌, map, Ok, Err, Some, None, vec_items, Option, Result, Vec}
use Rattle.std.specs.List.{onto_first}
use Rattle.std.specs.declared.alloc.Global.{Global}
use Rattle.call_list.specs.Words.{is_break}
use Rattle.call_list.specs.Lines.{CallValue, is_call, line_of, value_of}
use Rattle.call_list.specs.declared.entry.Wrong.{Wrong}
use Rattle.call_list.specs.declared.listed.Listed.{Listed}
use Rattle.call_list.specs.declared.listed.ListFault.{ListFault}
use Rattle.call_list.specs.declared.listed.ListFault.TheVariants.{Line, NoMemory}

-- the lines of a text; a line break at the very end begins no further line
abbrev pub lines_of : List ℕ → List (List ℕ)
lines_of [] = []
lines_of (b ∷ text) = cond (is_break b) ([] ∷ lines_of text) (onto_first b (lines_of text))

-- the calls with the numbers of their lines, or the first bad line
pub data ListValue : Type 0 where
  calls : List (ℕ × CallValue) → ListValue
  bad_line : ℕ → Wrong → ListValue

abbrev pub behind : List (ℕ × CallValue) → ListValue → ListValue
behind front (calls more) = calls (front ++ more)
behind front (bad_line n w) = bad_line n w

abbrev pub with_line : ℕ → Result (Option CallValue) Wrong → ListValue → ListValue
with_line n (Ok None) rest = rest
with_line n (Ok (Some call)) rest = behind ((n, call) ∷ []) rest
with_line n (Err w) rest = bad_line n w

-- the list whose first line has the number n
abbrev pub list_from : ℕ → List (List ℕ) → ListValue
list_from n [] = calls []
list_from n (line ∷ lines) = with_line n (line_of line) (list_from (n + 1) lines)

abbrev pub list_of : List ℕ → ListValue
list_of text = list_from 1 (lines_of text)

abbrev pub located : Listed → ℕ × CallValue
located l = (l.line, value_of l.entry)

-- the line with the number n is read, and its call kept behind those before it; memory is wanting only for a call
abbrev pub Noted : ℕ → Result (Option CallValue) Wrong → List Listed → List Listed → Result Unit ListFault → Type 0
Noted n value before after (Ok done) = (rest : ListValue) → behind (map located after) rest ≡ behind (map located before) (with_line n value rest)
Noted n value before after (Err (Line m w)) = (m ≡ n) × (value ≡ Err w)
Noted n value before after (Err NoMemory) = is_call value ≡ true

-- a list is read, or its first bad line is named; want of memory says nothing of it
abbrev pub ReadsList : List ℕ → Result (Vec Listed Global) ListFault → Type 0
ReadsList text (Ok listed) = list_of text ≡ calls (map located (vec_items listed))
ReadsList text (Err (Line n w)) = list_of text ≡ bad_line n w
ReadsList text (Err NoMemory) = Unit {0}

abbrev pub is_passed : Result (Option CallValue) Wrong → Bool
is_passed (Ok None) = true
is_passed (Ok (Some call)) = false
is_passed (Err w) = false

-- the first line that is no blank line and no comment is a call
abbrev pub may_want : List (List ℕ) → Bool
may_want [] = false
may_want (line ∷ lines) = is_call (line_of line) || (is_passed (line_of line) && may_want lines)

-- a list is read, or its first bad line is named; memory is wanting only where a call stands before every bad line
abbrev pub ReadsListOrWantsMemory : List ℕ → Result (Vec Listed Global) ListFault → Type 0
ReadsListOrWantsMemory text (Ok listed) = list_of text ≡ calls (map located (vec_items listed))
ReadsListOrWantsMemory text (Err (Line n w)) = list_of text ≡ bad_line n w
ReadsListOrWantsMemory text (Err NoMemory) = may_want (lines_of text) ≡ true
