-- Decimal numbers.
use Rattle.std.specs.Prelude.{◌≡◌, ℕ, ◌+◌, ◌-◌, ◌*◌, ◌≤◌, Bool, cond, ◌&&◌, List, [], ◌∷◌, Some, None, decimal, Option, Result, nat_le}
use Rattle.std.specs.Option.{ok_or}
use Rattle.call_list.specs.Words.{is_empty}
use Rattle.call_list.specs.declared.entry.Wrong.{Wrong}
use Rattle.call_list.specs.declared.entry.Wrong.TheVariants.{NotANumber}

abbrev pub is_digit : ℕ → Bool
is_digit b = nat_le 48 b && nat_le b 57

-- the digits before these gave `value`; none where one is no digit, or the number passes the limit
abbrev pub digits_value : ℕ → ℕ → List ℕ → Option ℕ
digits_value limit value [] = Some value
digits_value limit value (b ∷ word) =
    cond (is_digit b && nat_le (value * 10 + (b - 48)) limit) (digits_value limit (value * 10 + (b - 48)) word) None

-- the number that a word writes; an empty word writes none
abbrev pub number_of : ℕ → List ℕ → Option ℕ
number_of limit word = cond (is_empty word) None (digits_value limit 0 word)

-- a number is at most the limit
abbrev pub Within : ℕ → Option ℕ → Type 0
Within limit None = Unit {0}
Within limit (Some n) = n ≤ limit

-- the law of the definition: a number that is at most the limit is read as it is commonly written
abbrev pub ReadsWritten : ℕ → List ℕ → Option ℕ → Type 0
ReadsWritten limit word r = (n : ℕ) → n ≤ limit → word ≡ decimal n → r ≡ Some n

abbrev pub number_wanted : ℕ → List ℕ → Result ℕ Wrong
number_wanted limit word = ok_or (number_of limit word) NotANumber
