-- An order is read exactly where its bytes stand.
use Rattle.std.proofs.Common.{◌≡◌, ℕ, ◌+◌, ◌-◌, ◌*◌, ◌/◌, ◌%◌, ◌<◌, true, leb, List, [], ◌∷◌, ◌++◌, length, take, drop, Ok, Err, Result, sym, refl, ap, ◌∙◌, subst, inl, inr, arith}
use Rattle.std.proofs.lemmas.List.{length-append, length-take-le, take_at, take-append-drop}
use Rattle.std.proofs.lemmas.Bool.{cases_Bool, le-leb, leb-true}
use Rattle.std.proofs.lemmas.Bool.Decides.{nat_tests}
use Rattle.telegram.specs.Kinds.{kind_number, kind_numbered, takes_length}
use Rattle.telegram.specs.Format.{OrderValue, kind_of, field_bytes, bytes_of, InLists}
use Rattle.telegram.specs.Reading.{ReadValue, ReadValue.order, ReadValue.end, ReadValue.fault, placed, read_fields, read_kind, read_left, read_at}
use Rattle.telegram.specs.Laws.{ReadWhereItStands}
use Rattle.telegram.specs.declared.faults.Fault.{Fault}
use Rattle.telegram.specs.declared.faults.Fault.TheVariants.{CutShort, WrongLength}
use Rattle.telegram.specs.declared.kinds.Kind.{Kind}
use Rattle.telegram.specs.declared.kinds.Kind.TheVariants.{Authority, Level, Text, TextWithdrawal, EmergencyStop, Sign, Permission}
use Rattle.telegram.proofs.Backs.{numbered, short, length_taken, fields_back, Written, fields_only}

-- The number of a kind is the one that it is found by.
pub numbered_only : (n : ℕ) (k : Kind) → kind_numbered n ≡ Ok k → n ≡ kind_number k
numbered_only n Authority h = grind (arith, nat_tests)
numbered_only n Level h = grind (arith, nat_tests)
numbered_only n Text h = grind (arith, nat_tests)
numbered_only n TextWithdrawal h = grind (arith, nat_tests)
numbered_only n EmergencyStop h = grind (arith, nat_tests)
numbered_only n Sign h = grind (arith, nat_tests)
numbered_only n Permission h = grind (arith, nat_tests)

-- An order of a kind that takes its length, all of whose bytes are there, is what its fields say.
pub kind_back : (p : ℕ) (o : OrderValue) (rest : List ℕ) → InLists o →
    read_kind p (Ok (kind_of o)) (2 + length (field_bytes o)) (field_bytes o ++ rest) ≡ order o p (p + length (bytes_of o))
kind_back p o rest h =
    let n = 2 + length (field_bytes o) in
    let long : leb n (2 + length (field_bytes o ++ rest)) ≡ true = le-leb _ _ (omega (arith, length-append (field_bytes o) rest)) in
    let part : take (n - 2) (field_bytes o ++ rest) ≡ field_bytes o = take_at (field_bytes o) rest (n - 2) (omega arith) in
    let ends : p + n ≡ p + length (bytes_of o) = omega arith in
    simp (length_taken o h, long, part, fields_back o h) (ap (λ (after : ℕ). order o p after) ends)

-- The bytes of an order whose fields are in their lists are read as that order, whatever follows.
pub order_back : (p : ℕ) (o : OrderValue) (rest : List ℕ) → InLists o → read_left p (bytes_of o ++ rest) ≡ order o p (p + length (bytes_of o))
order_back p o rest h =
    let n = 2 + length (field_bytes o) in
    let b = 16 * kind_number (kind_of o) + n / 256 in
    let bs = field_bytes o ++ rest in
    let s = short (kind_of o) n (length_taken o h) in
    let k : b / 16 ≡ kind_number (kind_of o) = omega arith in
    let l : b % 16 * 256 + n % 256 ≡ n = omega arith in
    ap (λ (x : ℕ). read_kind p (kind_numbered x) (b % 16 * 256 + n % 256) bs) k
    ∙ ap (λ (x : Result Kind Fault). read_kind p x (b % 16 * 256 + n % 256) bs) (numbered (kind_of o))
    ∙ ap (λ (x : ℕ). read_kind p (Ok (kind_of o)) x bs) l ∙ kind_back p o rest h

-- A refusal is no order.
pub no_order_fault : (f : Fault) (p : ℕ) (o : OrderValue) (first after : ℕ) → fault f p ≡ order o first after → ⊥
no_order_fault f p o first after h = let c : ◌≡◌ {A = ℕ} 0 1 = cc in omega arith

-- The end is no order.
pub no_order_end : (p : ℕ) (o : OrderValue) (first after : ℕ) → end p ≡ order o first after → ⊥
no_order_end p o first after h = let c : ◌≡◌ {A = ℕ} 0 1 = cc in omega arith

-- An order is placed where it was read.
pub placed_only : (p n : ℕ) (r : Result OrderValue Fault) (o : OrderValue) (first after : ℕ) → placed p n r ≡ order o first after →
    (r ≡ Ok o) × (first ≡ p) × (after ≡ p + n)
placed_only p n (Ok x) o first after h = (cc, cc, cc)
placed_only p n (Err f) o first after h = absurd (no_order_fault f p o first after h)

-- An order of this kind and this length, read at a place.
pub record Found (p : ℕ) (k : Kind) (n : ℕ) (bs : List ℕ) (o : OrderValue) (first after : ℕ) : Type 0 where
  pub written : Written o k (take (n - 2) bs)
  pub long : length (take (n - 2) bs) + 2 ≡ n
  pub small : n < 256
  pub from : first ≡ p
  pub to : after ≡ p + n

-- What is read with a kind and a length is such an order.
pub kind_only : (p : ℕ) (k : Kind) (n : ℕ) (bs : List ℕ) (o : OrderValue) (first after : ℕ) → read_kind p (Ok k) n bs ≡ order o first after →
    Found p k n bs o first after
kind_only p k n bs o first after h = elim (cases_Bool (takes_length k n)) [
  | inl t ↦ elim (cases_Bool (leb n (2 + length bs))) [
    | inl l ↦
        let s = short k n t in
        let within = leb-true n (2 + length bs) l in
        let all : length (take (n - 2) bs) + 2 ≡ n = omega (arith, length-take-le (n - 2) bs (omega arith)) in
        let fits : takes_length k (2 + length (take (n - 2) bs)) ≡ true = ap (takes_length k) (omega arith) ∙ t in
        let r = placed_only p n (read_fields k (take (n - 2) bs)) o first after (simp (t, l) at h) in
        record { written = fields_only k (take (n - 2) bs) o fits r.0; long = all; small = s.1; from = r.1; to = r.2 }
    | inr l ↦ absurd (no_order_fault CutShort p o first after (simp (t, l) at h))
  ]
  | inr t ↦ absurd (no_order_fault WrongLength p o first after (simp t at h))
]

-- An order is read only with a kind that there is.
pub some_kind_only : (p : ℕ) (r : Result Kind Fault) (n : ℕ) (bs : List ℕ) (o : OrderValue) (first after : ℕ) → read_kind p r n bs ≡ order o first after →
    (k : Kind) × (r ≡ Ok k) × Found p k n bs o first after
some_kind_only p (Err f) n bs o first after h = absurd (no_order_fault f p o first after h)
some_kind_only p (Ok k) n bs o first after h = (k, refl, kind_only p k n bs o first after h)

-- Two bytes and the bytes after them, each as in the other list.
same_bytes : (a b c d : ℕ) (bs cs : List ℕ) → a ≡ b → c ≡ d → bs ≡ cs → a ∷ c ∷ bs ≡ b ∷ d ∷ cs
same_bytes a b c d bs cs e f g = cc

-- What is read from some bytes is an order, its fields in their lists, whose bytes are their front.
pub left_only : (p : ℕ) (xs : List ℕ) (o : OrderValue) (first after : ℕ) → read_left p xs ≡ order o first after →
    InLists o × (take (length (bytes_of o)) xs ≡ bytes_of o) × (first ≡ p) × (after ≡ p + length (bytes_of o))
left_only p [] o first after h = absurd (no_order_end p o first after h)
left_only p (b ∷ []) o first after h = absurd (no_order_fault CutShort p o first after h)
left_only p (b ∷ c ∷ bs) o first after h =
    let n = b % 16 * 256 + c in
    let s = some_kind_only p (kind_numbered (b / 16)) n bs o first after h in
    let found = s.2 in
    let fields = found.written.1 in
    let kind : b / 16 ≡ kind_number (kind_of o) = numbered_only (b / 16) s.0 s.1 ∙ ap kind_number (sym found.written.0) in
    let size : 2 + length (field_bytes o) ≡ n = omega (arith, ap length fields, found.long) in
    let one : b ≡ 16 * kind_number (kind_of o) + (2 + length (field_bytes o)) / 256 = omega (arith, found.small) in
    let two : c ≡ (2 + length (field_bytes o)) % 256 = omega (arith, found.small) in
    let three : take (length (field_bytes o)) bs ≡ field_bytes o = ap (λ (k : ℕ). take k bs) (omega arith) ∙ sym fields in
    (found.written.2, same_bytes _ _ _ _ _ _ one two three, found.from, omega (arith, found.to))

-- The law of the reader, at every place of every list of bytes.
pub read_where_it_stands : (t : List ℕ) (p : ℕ) → ReadWhereItStands t p (read_at t p)
read_where_it_stands t p o first after = (
  λ h. let s = left_only p (drop p t) o first after h in (s.0, s.1, s.2, s.3),
  λ h.
      let n = length (bytes_of o) in
      let front : drop p t ≡ bytes_of o ++ drop n (drop p t) = sym (take-append-drop n (drop p t)) ∙ ap (λ (x : List ℕ). x ++ drop n (drop p t)) h.1 in
      let back = order_back p o (drop n (drop p t)) h.0 in
      let from = h.2 in
      let to = h.3 in
      ap (read_left p) front ∙ back ∙ cc,
)

-- The law holds of every answer that is the defined one.
pub answer_stands : (t : List ℕ) (p : ℕ) (v : ReadValue) → v ≡ read_at t p → ReadWhereItStands t p v
answer_stands t p v h = subst (ReadWhereItStands t p) (sym h) (read_where_it_stands t p)
