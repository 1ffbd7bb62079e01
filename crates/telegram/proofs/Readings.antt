-- Whole telegrams: what is read of one is its bytes, order by order.
use Rattle.std.proofs.Common.{◌≡◌, ℕ, zero, suc, ◌+◌, ◌-◌, ◌*◌, ◌/◌, ◌%◌, ◌<◌, ◌≤◌, leb, List, [], ◌∷◌, ◌++◌, map, length, take, drop, Ok, Err, Result, IsOk, sym, refl, ap, ◌∙◌, subst, arith}
use Rattle.std.specs.List.{flat_map, AllByRecursion}
use Rattle.std.proofs.lemmas.List.{length-take, length-drop, take-append-drop, drop-drop, drop_at, map_push, append_assoc, append-nil}
use Rattle.std.proofs.lemmas.Bool.{cond_both, false≢true}
use Rattle.telegram.specs.Kinds.{kind_numbered, takes_length}
use Rattle.telegram.specs.Format.{OrderValue, bytes_of, InLists}
use Rattle.telegram.specs.Reading.{ReadValue, ReadValue.order, ReadValue.end, ReadValue.fault, placed, read_fields, read_kind, read_left, read_at}
use Rattle.telegram.specs.Whole.{PlacedValue, with_first, read_on, WholeTelegram, EndsWithin}
use Rattle.telegram.specs.declared.faults.Fault.{Fault}
use Rattle.telegram.specs.declared.faults.Refused.{Refused}
use Rattle.telegram.specs.declared.kinds.Kind.{Kind}
use Rattle.telegram.proofs.Standing.{order_back, left_only}

-- The reading of a telegram from a place on, answer by answer.
pub data Reads (t : List ℕ) : ℕ → List PlacedValue → Result ℕ Refused → Type 0 where
  ended : {p q : ℕ} → read_at t p ≡ end q → Reads t p [] (Ok q)
  refused : {p q : ℕ} {f : Fault} → read_at t p ≡ fault f q → Reads t p [] (Err (record { fault = f; first = q }))
  read : {p first after : ℕ} {o : OrderValue} {os : List PlacedValue} {e : Result ℕ Refused} →
      read_at t p ≡ order o first after → Reads t after os e →
      Reads t p (record { what = o; first = first; after = after } ∷ os) e

-- An answer of an order that begins at a place.
abbrev Here : ℕ → ReadValue → Type 0
Here p (order o first after) = first ≡ p
Here p (end place) = ⊥
Here p (fault f first) = first ≡ p

-- What the fields give is answered at the place.
placed_here : (p n : ℕ) (r : Result OrderValue Fault) → Here p (placed p n r)
placed_here p n (Ok o) = refl
placed_here p n (Err f) = refl

-- So is what is read with a kind and a length.
kind_here : (p : ℕ) (r : Result Kind Fault) (n : ℕ) (bs : List ℕ) → Here p (read_kind p r n bs)
kind_here p (Err f) n bs = refl
kind_here p (Ok k) n bs =
    cond_both (takes_length k n) _ _ (Here p)
    (λ _. cond_both (leb n (2 + length bs)) _ _ (Here p) (λ _. placed_here p n (read_fields k (take (n - 2) bs))) (λ _. refl))
    (λ _. refl)

-- The end is answered only where no byte is left.
pub left_end : (p : ℕ) (xs : List ℕ) (q : ℕ) → read_left p xs ≡ end q → (xs ≡ []) × (q ≡ p)
left_end p [] q h = (refl, cc)
left_end p (b ∷ []) q h = absurd (subst (Here p) h refl)
left_end p (b ∷ c ∷ bs) q h = absurd (subst (Here p) h (kind_here p (kind_numbered (b / 16)) (b % 16 * 256 + c) bs))

-- A refusal is of an order that begins here.
pub left-fault : (p : ℕ) (xs : List ℕ) (f : Fault) (q : ℕ) → read_left p xs ≡ fault f q → (0 < length xs) × (q ≡ p)
left-fault p [] f q h = (let c : ◌≡◌ {A = ℕ} 0 1 = cc in omega arith, cc)
left-fault p (b ∷ []) f q h = (omega arith, subst (Here p) h refl)
left-fault p (b ∷ c ∷ bs) f q h = (omega arith, subst (Here p) h (kind_here p (kind_numbered (b / 16)) (b % 16 * 256 + c) bs))

-- An order has bytes, and they lie in the telegram.
pub order-within : (t : List ℕ) (p : ℕ) (o : OrderValue) (first after : ℕ) → read_at t p ≡ order o first after → (p < after) × (after ≤ length t)
order-within t p o first after h =
    let s = left_only p (drop p t) o first after h in
    let long = ap length s.1 in
    let front = length-take (length (bytes_of o)) (drop p t) in
    let left = length-drop p t in
    (omega (arith, s.3), omega (arith, s.3, long, front, left))

-- After an order, the telegram goes on past its bytes.
pub order-then : (t : List ℕ) (p : ℕ) (o : OrderValue) (first after : ℕ) → read_at t p ≡ order o first after → bytes_of o ++ drop after t ≡ drop p t
order-then t p o first after h =
    let s = left_only p (drop p t) o first after h in
    let n = length (bytes_of o) in
    let rest : drop n (drop p t) ≡ drop after t = drop-drop n p t ∙ ap (λ (k : ℕ). drop k t) (sym s.3) in
    ap (λ (x : List ℕ). bytes_of o ++ x) (sym rest) ∙ ap (λ (x : List ℕ). x ++ drop n (drop p t)) (sym s.1) ∙ take-append-drop n (drop p t)

-- One reading alone fits.
pub reads_only : (t : List ℕ) (p : ℕ) (os qs : List PlacedValue) (e f : Result ℕ Refused) → Reads t p os e → Reads t p qs f → (qs ≡ os) × (f ≡ e)
reads_only t p os qs e f (ended h) (ended k) = (cc, cc)
reads_only t p os qs e f (ended h) (refused k) = (cc, cc)
reads_only t p os qs e f (ended h) (read k s) = (cc, cc)
reads_only t p os qs e f (refused h) (ended k) = (cc, cc)
reads_only t p os qs e f (refused h) (refused k) = (cc, cc)
reads_only t p os qs e f (refused h) (read k s) = (cc, cc)
reads_only t p os qs e f (read h r) (ended k) = (cc, cc)
reads_only t p os qs e f (read h r) (refused k) = (cc, cc)
reads_only t p os qs e f (read {after = a} {os = os'} h r) (read {after = b} {os = qs'} k s) =
    let same : b ≡ a = cc in
    let rest = reads_only t a os' qs' e f r (subst (λ (x : ℕ). Reads t x qs' f) same s) in
    (cc, rest.1)

-- What is read to the end, from a place on, is the rest of the telegram.
pub whole_only : (t : List ℕ) (p : ℕ) (os : List PlacedValue) (e : Result ℕ Refused) → Reads t p os e → IsOk e →
    AllByRecursion InLists (map (λ x. x.what) os) × (flat_map bytes_of (map (λ x. x.what) os) ≡ drop p t)
whole_only t p os e (ended {q = q} h) k = (tt, sym (left_end p (drop p t) q h).0)
whole_only t p os e (refused h) k = absurd (false≢true k)
whole_only t p os e (read {first = first} {after = after} {o = o} {os = os'} h r) k =
    let rest = whole_only t after os' e r k in
    let s = left_only p (drop p t) o first after h in
    ((s.0, rest.0), ap (λ (x : List ℕ). bytes_of o ++ x) rest.1 ∙ order-then t p o first after h)

-- The bytes of orders, their fields in their lists, are read as those orders, to the end.
pub whole_back : (t : List ℕ) (p : ℕ) (os : List OrderValue) → AllByRecursion InLists os → flat_map bytes_of os ≡ drop p t →
    (placed : List PlacedValue) × (e : Result ℕ Refused) × Reads t p placed e × IsOk e × (map (λ x. x.what) placed ≡ os)
whole_back t p [] all h = ([], Ok p, ended (ap (read_left p) (sym h)), refl, refl)
whole_back t p (o ∷ os) all h =
    let n = length (bytes_of o) in
    let here : read_at t p ≡ order o p (p + n) = ap (read_left p) (sym h) ∙ order_back p o (flat_map bytes_of os) all.0 in
    let then : flat_map bytes_of os ≡ drop (p + n) t = sym (drop_at (bytes_of o) (flat_map bytes_of os) n refl) ∙ ap (drop n) h ∙ drop-drop n p t in
    let rest = whole_back t (p + n) os all.1 then in
    (record { what = o; first = p; after = p + n } ∷ rest.0, rest.1, read here rest.2, rest.3, ap (λ (x : List OrderValue). o ∷ x) rest.4)

-- The law of the whole telegram, of any reading from its start.
pub whole-telegram : (t : List ℕ) (os : List PlacedValue) (e : Result ℕ Refused) → Reads t 0 os e → WholeTelegram t (record { orders = os; ending = e })
whole-telegram t placed e r os = (
  λ h.
      let w = whole_back t 0 os h.0 h.1 in
      let same = reads_only t 0 placed w.0 e w.1 r w.2 in
      (subst IsOk same.1 w.3, ap (map (λ (x : PlacedValue). x.what)) (sym same.0) ∙ w.4),
  λ h.
      let w = whole_only t 0 placed e r h.0 in
      (subst (AllByRecursion InLists) h.1 w.0, ap (flat_map bytes_of) (sym h.1) ∙ w.1),
)

-- A reading from a place in the telegram ends in it.
pub ends-within : (t : List ℕ) (p : ℕ) (os : List PlacedValue) (e : Result ℕ Refused) → p ≤ length t → Reads t p os e → EndsWithin t e
ends-within t p os e l (ended {q = q} h) =
    let s = left_end p (drop p t) q h in
    omega (arith, s.1, ap length s.0, length-drop p t)
ends-within t p os e l (refused {q = q} {f = f} h) =
    let s = left-fault p (drop p t) f q h in
    omega (arith, s.0, s.1, length-drop p t)
ends-within t p os e l (read {first = first} {after = after} {o = o} {os = os'} h r) =
    ends-within t after os' e (order-within t p o first after h).1 r

-- A reading is what the definition gives, where enough orders may follow.
pub reads_whole : (t : List ℕ) (p n : ℕ) (os : List PlacedValue) (e : Result ℕ Refused) → length t ≤ p + n → Reads t p os e →
    read_on n t (read_at t p) ≡ record { orders = os; ending = e }
reads_whole t p n os e l (ended h) = ap (read_on n t) h
reads_whole t p n os e l (refused h) = ap (read_on n t) h
reads_whole t p zero os e l (read {first = first} {after = after} {o = o} h r) =
    let s = order-within t p o first after h in absurd (omega (arith, s.0, s.1))
reads_whole t p (suc n) os e l (read {first = first} {after = after} {o = o} {os = os'} h r) =
    let x : PlacedValue = record { what = o; first = first; after = after } in
    let s = order-within t p o first after h in
    ap (read_on (suc n) t) h ∙ ap (with_first x) (reads_whole t after n os' e (omega (arith, s.0)) r)

-- What is answered of a telegram is answered of the same telegram.
pub answered : (t u : List ℕ) (p : ℕ) (v : ReadValue) → u ≡ t → v ≡ read_at u p → read_at t p ≡ v
answered t u p v same h = ap (λ (x : List ℕ). read_at x p) (sym same) ∙ sym h

-- Where nothing is left to read, what was read is all.
pub all_read : (t : List ℕ) (os : List PlacedValue) (e : Result ℕ Refused) → Reads t 0 (os ++ []) e → Reads t 0 os e
all_read t os e r = subst (λ (x : List PlacedValue). Reads t 0 x e) (append-nil os) r

-- One more element, and what follows it.
pub map-more-then : {X Y : Type 0} (f : X → Y) (xs ys : List X) (x : X) (zs : List Y) → ys ≡ xs ++ x ∷ [] → map f ys ++ zs ≡ map f xs ++ (f x ∷ zs)
map-more-then f xs ys x zs h =
    ap (λ (l : List _). map f l ++ zs) h ∙ ap (λ (l : List _). l ++ zs) (map_push f xs x) ∙ append_assoc (map f xs) (f x ∷ []) zs
