-- The law of the reader: an order is read exactly where its bytes stand.
use Rattle.std.specs.Prelude.{◌≡◌, ◌↔◌, ℕ, ◌+◌, List, length, take, drop}
use Rattle.telegram.specs.Format.{OrderValue, InLists, bytes_of}
use Rattle.telegram.specs.Reading.{ReadValue, ReadValue.order, ReadValue.end, ReadValue.fault}

-- These bytes stand in a telegram at a place.
abbrev pub Stands : List ℕ → List ℕ → ℕ → Type 0
Stands bs t p = take (length bs) (drop p t) ≡ bs

-- An answer at a place is an order exactly when the order's fields are in their lists and its bytes stand there;
-- its first byte is then at the place, and the byte after it follows its bytes.
abbrev pub ReadWhereItStands : List ℕ → ℕ → ReadValue → Type 0
ReadWhereItStands t p answer = (o : OrderValue) (first after : ℕ) →
    (answer ≡ order o first after) ↔ (InLists o × Stands (bytes_of o) t p × (first ≡ p) × (after ≡ p + length (bytes_of o)))

-- Where the reader stands after an answer: past an order, else where it stood.
abbrev pub place_after : ℕ → ReadValue → ℕ
place_after p (order o first after) = after
place_after p (end place) = p
place_after p (fault f first) = p
