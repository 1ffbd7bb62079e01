-- The format: what an order says, and the bytes that say it.
use Rattle.std.specs.Prelude.{◌≡◌, ℕ, ◌+◌, ◌*◌, ◌/◌, ◌%◌, ◌<◌, ◌≤◌, Bool, true, cond, ◌&&◌, ◌||◌, List, [], ◌∷◌, ◌++◌, length, nat_le}
use Rattle.std.specs.List.{list_all}
use Rattle.telegram.specs.Kinds.{kind_number}
use Rattle.telegram.specs.Modes.{mode_bits}
use Rattle.telegram.specs.declared.modes.Mode.{Mode}
use Rattle.telegram.specs.declared.kinds.Kind.{Kind}
use Rattle.telegram.specs.declared.kinds.Kind.TheVariants as kind
use Rattle.telegram.specs.declared.orders.Order.{Order}
use Rattle.telegram.specs.declared.orders.Order.TheVariants.{Authority, Level, Text, TextWithdrawal, EmergencyStop, Sign, Permission}

-- What an order says, its text as a list of bytes.
pub data OrderValue : Type 0 where
  authority : Mode → OrderValue
  level : ℕ → OrderValue
  text : ℕ → Bool → List ℕ → OrderValue
  withdrawal : ℕ → OrderValue
  stop : OrderValue
  sign : OrderValue
  permission : OrderValue

-- What an order of the code says.
abbrev pub value_of : Order → OrderValue
value_of (Authority m) = authority m
value_of (Level l) = level l
value_of (Text n w t) = text n w t.now
value_of (TextWithdrawal n) = withdrawal n
value_of EmergencyStop = stop
value_of Sign = sign
value_of Permission = permission

abbrev pub kind_of : OrderValue → Kind
kind_of (authority m) = kind.Authority
kind_of (level l) = kind.Level
kind_of (text n w t) = kind.Text
kind_of (withdrawal n) = kind.TextWithdrawal
kind_of stop = kind.EmergencyStop
kind_of sign = kind.Sign
kind_of permission = kind.Permission

-- The first two bytes: four bits of kind, twelve of length.
abbrev pub header : Kind → ℕ → List ℕ
header k n = (16 * kind_number k + n / 256) ∷ (n % 256) ∷ []

-- The bytes after these: two bits and six zero bits; a number; a number, one bit, seven zero bits and the text; none.
abbrev pub field_bytes : OrderValue → List ℕ
field_bytes (authority m) = 64 * mode_bits m ∷ []
field_bytes (level l) = 64 * l ∷ []
field_bytes (text n w t) = n ∷ cond w 128 0 ∷ t
field_bytes (withdrawal n) = n ∷ []
field_bytes stop = []
field_bytes sign = []
field_bytes permission = []

-- The format: all bytes of an order.
abbrev pub bytes_of : OrderValue → List ℕ
bytes_of o = header (kind_of o) (2 + length (field_bytes o)) ++ field_bytes o

-- A byte that may stand in a text.
abbrev pub text_byte : ℕ → Bool
text_byte b = (nat_le 32 b && nat_le b 126) || (nat_le 160 b && nat_le b 255)

-- Every byte of a text may stand in one.
abbrev pub sayable : List ℕ → Bool
sayable t = list_all text_byte t

-- The fields of an order are in their lists. A number is any byte.
abbrev pub InLists : OrderValue → Type 0
InLists (authority m) = mode_bits m < 3
InLists (level l) = l < 3
InLists (text n w t) = (1 ≤ length t) × (length t ≤ 200) × (sayable t ≡ true)
InLists (withdrawal n) = Unit {0}
InLists stop = Unit {0}
InLists sign = Unit {0}
InLists permission = Unit {0}
