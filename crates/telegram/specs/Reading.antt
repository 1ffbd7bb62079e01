-- What the reader answers at a place of a telegram: the refusals, in their order.
use Rattle.std.specs.Prelude.{ℕ, ◌+◌, ◌-◌, ◌*◌, ◌/◌, ◌%◌, Bool, cond, List, [], ◌∷◌, length, take, drop, Some, None, Ok, Err, Option, Result, ◌==◌, nat_le, slice_get, slice_index}
use Rattle.telegram.specs.Kinds.{kind_numbered, takes_length}
use Rattle.telegram.specs.Modes.{listed_modes}
use Rattle.telegram.specs.Format.{OrderValue, OrderValue.authority, OrderValue.level, OrderValue.text, OrderValue.withdrawal, OrderValue.stop, OrderValue.sign, OrderValue.permission, value_of, sayable}
use Rattle.telegram.specs.declared.faults.Fault.{Fault}
use Rattle.telegram.specs.declared.faults.Refused.{Refused}
use Rattle.telegram.specs.declared.faults.Fault.TheVariants.{CutShort, WrongLength, OutsideList, FillerSet, TextByte}
use Rattle.telegram.specs.declared.kinds.Kind.{Kind}
use Rattle.telegram.specs.declared.kinds.Kind.TheVariants.{Authority, Level, Text, TextWithdrawal, EmergencyStop, Sign, Permission}
use Rattle.telegram.specs.declared.orders.Placed.{Placed}

-- A refusal, unless a test holds: the refusals then stand in their order.
abbrev pub unless : {X : Type 0} → Bool → X → X → X
unless test refusal answer = cond test answer refusal

-- Makes something of what was read; a refusal stays.
abbrev pub saying : {X Y : Type 0} → (X → Y) → Result X Fault → Result Y Fault
saying make (Ok x) = Ok (make x)
saying make (Err f) = Err f

-- What was found in a list, if anything, and six bits that are zero.
abbrev pub filled : {X : Type 0} → Option X → ℕ → Result X Fault
filled None bits = Err OutsideList
filled (Some x) bits = unless (bits == 0) (Err FillerSet) (Ok x)

-- Two bits that name the value at their place of a list, then six zero bits.
abbrev pub listed : {X : Type 0} → List X → ℕ → Result X Fault
listed xs b = filled (slice_get xs (b / 64)) (b % 64)

-- The first bit of a byte, and the value of the other seven.
abbrev pub first_bit : ℕ → Bool
first_bit b = nat_le 128 b

abbrev pub other_bits : ℕ → ℕ
other_bits b = cond (first_bit b) (b - 128) b

-- A number, one bit and seven zero bits, then the text.
abbrev pub text_fields : ℕ → ℕ → List ℕ → Result OrderValue Fault
text_fields n b t = unless (other_bits b == 0) (Err FillerSet) (unless (sayable t) (Err TextByte) (Ok (text n (first_bit b) t)))

-- The fields of an order of a kind, in its bytes after the first two.
abbrev pub read_fields : Kind → List ℕ → Result OrderValue Fault
read_fields Authority bs = saying authority (listed listed_modes (slice_index bs 0))
read_fields Level bs = saying level (listed (0 ∷ 1 ∷ 2 ∷ []) (slice_index bs 0))
read_fields Text bs = text_fields (slice_index bs 0) (slice_index bs 1) (drop 2 bs)
read_fields TextWithdrawal bs = Ok (withdrawal (slice_index bs 0))
read_fields EmergencyStop bs = Ok stop
read_fields Sign bs = Ok sign
read_fields Permission bs = Ok permission

-- One answer of the reader. Of an order it tells where its bytes begin and which place is behind
-- them, of the end its place, and of a refusal where the faulty order begins.
pub data ReadValue : Type 0 where
  order : OrderValue → ℕ → ℕ → ReadValue
  end : ℕ → ReadValue
  fault : Fault → ℕ → ReadValue

-- The answer of the code for a place, by its cases.
abbrev pub answer_at : ℕ → Result (Option Placed) Fault → ReadValue
answer_at p (Ok (Some o)) = order (value_of o.order) o.first o.after
answer_at p (Ok None) = end p
answer_at p (Err f) = fault f p

-- The answer of the reader, which then stands at this place.
abbrev pub answer_of : ℕ → Result (Option Placed) Refused → ReadValue
answer_of p (Ok read) = answer_at p (Ok read)
answer_of p (Err r) = fault r.fault r.first

-- The answer at a place for an order of this length.
abbrev pub placed : ℕ → ℕ → Result OrderValue Fault → ReadValue
placed p n (Ok o) = order o p (p + n)
placed p n (Err f) = fault f p

-- An order of a kind and a length, unless the kind is refused, where `bs` are all bytes after its first two.
abbrev pub read_kind : ℕ → Result Kind Fault → ℕ → List ℕ → ReadValue
read_kind p (Err f) n bs = fault f p
read_kind p (Ok k) n bs =
    unless (takes_length k n) (fault WrongLength p)
    (unless (nat_le n (2 + length bs)) (fault CutShort p)
    (placed p n (read_fields k (take (n - 2) bs))))

-- What stands at a place, where these bytes are left.
abbrev pub read_left : ℕ → List ℕ → ReadValue
read_left p [] = end p
read_left p (b ∷ []) = fault CutShort p
read_left p (b ∷ c ∷ bs) = read_kind p (kind_numbered (b / 16)) (b % 16 * 256 + c) bs

-- What the reader answers at a place of a telegram.
abbrev pub read_at : List ℕ → ℕ → ReadValue
read_at t p = read_left p (drop p t)
