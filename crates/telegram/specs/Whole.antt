-- A whole telegram, read to its end or to the first refusal.
use Rattle.std.specs.Prelude.{◌≡◌, ◌↔◌, ℕ, zero, suc, ◌<◌, Bool, true, false, List, [], ◌∷◌, map, length, vec_items, Ok, Err, Result, IsOk, MatchResult}
use Rattle.std.specs.List.{flat_map, AllByRecursion}
use Rattle.telegram.specs.Format.{OrderValue, value_of, InLists, bytes_of}
use Rattle.telegram.specs.Reading.{ReadValue, ReadValue.order, ReadValue.end, ReadValue.fault, read_at}
use Rattle.telegram.specs.declared.faults.Refused.{Refused}
use Rattle.telegram.specs.declared.orders.Placed.{Placed}
use Rattle.telegram.specs.declared.whole.Reading.{Reading}

-- An order, and the stretch of its bytes: from the place `first` up to the place `after`, which is
-- the first behind it.
pub record PlacedValue : Type 0 where
  pub what : OrderValue
  pub first : ℕ
  pub after : ℕ

-- A placed order of the code.
abbrev pub placed_of : Placed → PlacedValue
placed_of p = record { what = value_of p.order; first = p.first; after = p.after }

-- The orders read, and how the reading ended.
pub record WholeValue : Type 0 where
  pub orders : List PlacedValue
  pub ending : Result ℕ Refused

-- A reading of the code.
abbrev pub whole_of : Reading → WholeValue
whole_of g = record { orders = map placed_of (vec_items g.orders); ending = g.ending }

-- One more order in front.
abbrev pub with_first : PlacedValue → WholeValue → WholeValue
with_first o w = record { orders = o ∷ w.orders; ending = w.ending }

-- From an answer of the reader on: after an order, the answer at the byte after it. At most so many orders follow the answer.
abbrev pub read_on : ℕ → List ℕ → ReadValue → WholeValue
read_on n t (end place) = record { orders = []; ending = Ok place }
read_on n t (fault f first) = record { orders = []; ending = Err (record { fault = f; first = first }) }
read_on zero t (order o first after) = record { orders = record { what = o; first = first; after = after } ∷ []; ending = Ok after }
read_on (suc n) t (order o first after) = with_first (record { what = o; first = first; after = after }) (read_on n t (read_at t after))

-- What is read of a whole telegram. It has no more orders than bytes.
abbrev pub read_whole : List ℕ → WholeValue
read_whole t = read_on (length t) t (read_at t 0)

-- The law of the whole telegram: it is the bytes of some orders, their fields in their lists, one after another,
-- exactly when the reading ends without a fault and these are the orders read.
abbrev pub WholeTelegram : List ℕ → WholeValue → Type 0
WholeTelegram t w = (os : List OrderValue) →
    (AllByRecursion InLists os × (flat_map bytes_of os ≡ t)) ↔ (IsOk w.ending × (map (λ p. p.what) w.orders ≡ os))

-- The end is the telegram's length, and a refused order begins before it.
abbrev pub EndsWithin : List ℕ → Result ℕ Refused → Type 0
EndsWithin t ending = MatchResult ending (λ place. place ≡ length t) (λ r. r.first < length t)

-- An answer is an order.
abbrev pub is_order : ReadValue → Bool
is_order (order o first after) = true
is_order (end place) = false
is_order (fault f first) = false

-- Memory is taken for orders only, so it is wanting only where a telegram begins with one.
abbrev pub BeginsWithOrder : List ℕ → Type 0
BeginsWithOrder t = is_order (read_at t 0) ≡ true
