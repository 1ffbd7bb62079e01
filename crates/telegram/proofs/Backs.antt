-- The fields of an order are read back from their bytes, and from no others.
use Rattle.std.proofs.Common.{◌≡◌, ℕ, zero, suc, ◌+◌, ◌*◌, ◌/◌, ◌%◌, ◌<◌, ◌≤◌, true, false, cond, eqb, List, [], ◌∷◌, length, slice_get, Some, None, Option, Ok, Err, Result, refl, ap, ◌∙◌, subst, inl, inr, arith}
use Rattle.std.proofs.lemmas.Bool.{cases_Bool, false≢true, eqb-true}
use Rattle.std.proofs.lemmas.Bool.Decides.{nat_tests as tells}
use Rattle.telegram.specs.Kinds.{kind_number, kind_numbered, takes_length}
use Rattle.telegram.specs.Modes.{mode_bits, listed_modes}
use Rattle.telegram.specs.Format.{OrderValue, OrderValue.authority, OrderValue.level, OrderValue.text, OrderValue.withdrawal, OrderValue.stop, OrderValue.sign, OrderValue.permission, kind_of, field_bytes, sayable, InLists}
use Rattle.telegram.specs.Reading.{read_fields, saying, filled, listed, text_fields, first_bit, other_bits}
use Rattle.telegram.specs.declared.faults.Fault.{Fault}
use Rattle.telegram.specs.declared.faults.Fault.TheVariants.{OutsideList, FillerSet, TextByte}
use Rattle.telegram.specs.declared.modes.Mode.{Mode}
use Rattle.telegram.specs.declared.modes.Mode.TheVariants.{Standby, StaffResponsible, FullSupervision, OnSight, LimitedSupervision, Shunting, Unfitted, Trip, PostTrip, SystemFailure}
use Rattle.telegram.specs.declared.kinds.Kind.{Kind}
use Rattle.telegram.specs.declared.kinds.Kind.TheVariants.{Authority, Level, Text, TextWithdrawal, EmergencyStop, Sign, Permission}

-- Each kind is the one with its number.
pub numbered : (k : Kind) → kind_numbered (kind_number k) ≡ Ok k
numbered Authority = refl
numbered Level = refl
numbered Text = refl
numbered TextWithdrawal = refl
numbered EmergencyStop = refl
numbered Sign = refl
numbered Permission = refl

-- Every order is shorter than 256 bytes, and has the first two.
pub short : (k : Kind) (n : ℕ) → takes_length k n ≡ true → (2 ≤ n) × (n < 256)
short Authority n h = grind (arith, tells)
short Level n h = grind (arith, tells)
short Text n h = grind (arith, tells)
short TextWithdrawal n h = grind (arith, tells)
short EmergencyStop n h = grind (arith, tells)
short Sign n h = grind (arith, tells)
short Permission n h = grind (arith, tells)

-- An order whose fields are in their lists has a length that its kind takes.
pub length_taken : (o : OrderValue) → InLists o → takes_length (kind_of o) (2 + length (field_bytes o)) ≡ true
length_taken (authority m) h = refl
length_taken (level l) h = refl
length_taken (text n w t) h = grind (arith, tells)
length_taken (withdrawal n) h = refl
length_taken stop h = refl
length_taken sign h = refl
length_taken permission h = refl

-- Nothing is no value.
pub not-found : {X : Type 0} (x : X) → ◌≡◌ {A = Option X} None (Some x) → ⊥
not-found x h = let c : ◌≡◌ {A = ℕ} 0 1 = cc in omega arith

-- A mode in the list of an authority is the one at its bits.
pub mode_back : (m : Mode) → mode_bits m < 3 → slice_get listed_modes (mode_bits m) ≡ Some m
mode_back Standby h = absurd (omega arith)
mode_back StaffResponsible h = absurd (omega arith)
mode_back FullSupervision h = refl
mode_back OnSight h = refl
mode_back LimitedSupervision h = refl
mode_back Shunting h = absurd (omega arith)
mode_back Unfitted h = absurd (omega arith)
mode_back Trip h = absurd (omega arith)
mode_back PostTrip h = absurd (omega arith)
mode_back SystemFailure h = absurd (omega arith)

-- A mode of the list stands at its bits.
pub mode_only : (v : ℕ) (m : Mode) → slice_get listed_modes v ≡ Some m → (mode_bits m < 3) × (mode_bits m ≡ v)
mode_only zero m h = let e : FullSupervision ≡ m = cc in subst (λ (x : Mode). (mode_bits x < 3) × (mode_bits x ≡ 0)) e (omega arith, refl)
mode_only (suc zero) m h = let e : OnSight ≡ m = cc in subst (λ (x : Mode). (mode_bits x < 3) × (mode_bits x ≡ 1)) e (omega arith, refl)
mode_only (suc (suc zero)) m h = let e : LimitedSupervision ≡ m = cc in subst (λ (x : Mode). (mode_bits x < 3) × (mode_bits x ≡ 2)) e (omega arith, refl)
mode_only (suc (suc (suc n))) m h = absurd (not-found m h)

-- A level below 3 stands in the list at itself.
pub level_back : (l : ℕ) → l < 3 → slice_get (0 ∷ 1 ∷ 2 ∷ []) l ≡ Some l
level_back zero h = refl
level_back (suc zero) h = refl
level_back (suc (suc zero)) h = refl
level_back (suc (suc (suc n))) h = absurd (omega arith)

-- Each level of the list stands at itself.
pub level_only : (v l : ℕ) → slice_get (0 ∷ 1 ∷ 2 ∷ []) v ≡ Some l → (l < 3) × (l ≡ v)
level_only zero l h = let e : l ≡ 0 = cc in (omega (arith, e), e)
level_only (suc zero) l h = let e : l ≡ 1 = cc in (omega (arith, e), e)
level_only (suc (suc zero)) l h = let e : l ≡ 2 = cc in (omega (arith, e), e)
level_only (suc (suc (suc n))) l h = absurd (not-found l h)

-- A refusal says nothing.
pub not-said : {X : Type 0} (f : Fault) (x : X) → ◌≡◌ {A = Result X Fault} (Err f) (Ok x) → ⊥
not-said f x h = let c : ◌≡◌ {A = ℕ} 0 1 = cc in omega arith

-- What stands in a list is read back from its place and six zero bits.
pub listed_back : {X : Type 0} (xs : List X) (v : ℕ) (x : X) → slice_get xs v ≡ Some x → listed xs (64 * v) ≡ Ok x
listed_back xs v x h =
    let q : (64 * v) / 64 ≡ v = omega arith in
    let r : (64 * v) % 64 ≡ 0 = omega arith in
    simp (q, r, h)

-- What was found is said only before six zero bits.
filled_only : {X : Type 0} (o : Option X) (r : ℕ) (x : X) → filled o r ≡ Ok x → (o ≡ Some x) × (r ≡ 0)
filled_only None r x h = absurd (not-said OutsideList x h)
filled_only (Some y) r x h = elim (cases_Bool (eqb r 0)) [
  | inl z ↦ (let k = simp z at h in cc, eqb-true r 0 z)
  | inr z ↦ absurd (not-said FillerSet x (simp z at h))
]

-- It is read from no other byte.
pub listed_only : {X : Type 0} (xs : List X) (b : ℕ) (x : X) → listed xs b ≡ Ok x → (slice_get xs (b / 64) ≡ Some x) × (64 * (b / 64) ≡ b)
listed_only xs b x h =
    let s = filled_only (slice_get xs (b / 64)) (b % 64) x h in
    (s.0, omega (arith, s.1))

-- What was made was made of something read.
pub saying_only : {X Y : Type 0} (make : X → Y) (r : Result X Fault) (y : Y) → saying make r ≡ Ok y → (x : X) × (r ≡ Ok x) × (make x ≡ y)
saying_only make (Ok x) y h = (x, refl, cc)
saying_only make (Err f) y h = absurd (not-said f y h)

-- A text is read from a byte with no filler and from bytes of the list.
pub text_only : (n b : ℕ) (t : List ℕ) (o : OrderValue) → text_fields n b t ≡ Ok o → (cond (first_bit b) 128 0 ≡ b) × (sayable t ≡ true) × (text n (first_bit b) t ≡ o)
text_only n b t o h = elim (cases_Bool (eqb (other_bits b) 0)) [
  | inl z ↦ elim (cases_Bool (sayable t)) [
    | inl s ↦ (grind (arith, tells), s, let k = simp (z, s) at h in cc)
    | inr s ↦ absurd (not-said TextByte o (simp (z, s) at h))
  ]
  | inr z ↦ absurd (not-said FillerSet o (simp z at h))
]

-- The fields of an order that are in their lists are read back.
pub fields_back : (o : OrderValue) → InLists o → read_fields (kind_of o) (field_bytes o) ≡ Ok o
fields_back (authority m) h = ap (saying authority) (listed_back listed_modes (mode_bits m) m (mode_back m h))
fields_back (level l) h = ap (saying level) (listed_back (0 ∷ 1 ∷ 2 ∷ []) l l (level_back l h))
fields_back (text n true t) h = simp h.2
fields_back (text n false t) h = simp h.2
fields_back (withdrawal n) h = refl
fields_back stop h = refl
fields_back sign h = refl
fields_back permission h = refl

-- An order of this kind, its fields in their lists, with these bytes after the first two.
abbrev pub Written : OrderValue → Kind → List ℕ → Type 0
Written o k bs = (kind_of o ≡ k) × (field_bytes o ≡ bs) × InLists o

-- What is read from the fields is an order with these fields.
pub fields_only : (k : Kind) (bs : List ℕ) (o : OrderValue) → takes_length k (2 + length bs) ≡ true → read_fields k bs ≡ Ok o → Written o k bs
fields_only Authority [] o l h = absurd (false≢true l)
fields_only Authority (b ∷ []) o l h =
    let s = saying_only authority (listed listed_modes b) o h in
    let t = listed_only listed_modes b s.0 s.1 in
    let m = mode_only (b / 64) s.0 t.0 in
    subst (λ (x : OrderValue). Written x Authority (b ∷ [])) s.2
    (refl, ap (λ (x : ℕ). x ∷ []) (ap (λ (x : ℕ). 64 * x) m.1 ∙ t.1), m.0)
fields_only Authority (b ∷ c ∷ cs) o l h = absurd (grind (arith, tells))
fields_only Level [] o l h = absurd (false≢true l)
fields_only Level (b ∷ []) o l h =
    let s = saying_only level (listed (0 ∷ 1 ∷ 2 ∷ []) b) o h in
    let t = listed_only (0 ∷ 1 ∷ 2 ∷ []) b s.0 s.1 in
    let l = level_only (b / 64) s.0 t.0 in
    subst (λ (x : OrderValue). Written x Level (b ∷ [])) s.2 (refl, ap (λ (x : ℕ). x ∷ []) (ap (λ (x : ℕ). 64 * x) l.1 ∙ t.1), l.0)
fields_only Level (b ∷ c ∷ cs) o l h = absurd (grind (arith, tells))
fields_only Text [] o l h = absurd (false≢true l)
fields_only Text (b ∷ []) o l h = absurd (false≢true l)
fields_only Text (n ∷ b ∷ t) o l h =
    let s = text_only n b t o h in
    subst (λ (x : OrderValue). Written x Text (n ∷ b ∷ t)) s.2
    (refl, ap (λ (x : ℕ). n ∷ x ∷ t) s.0, (grind (arith, tells), grind (arith, tells), s.1))
fields_only TextWithdrawal [] o l h = absurd (false≢true l)
fields_only TextWithdrawal (b ∷ []) o l h =
    let e : withdrawal b ≡ o = cc in subst (λ (x : OrderValue). Written x TextWithdrawal (b ∷ [])) e (refl, refl, tt)
fields_only TextWithdrawal (b ∷ c ∷ cs) o l h = absurd (grind (arith, tells))
fields_only EmergencyStop [] o l h = let e : stop ≡ o = cc in subst (λ (x : OrderValue). Written x EmergencyStop []) e (refl, refl, tt)
fields_only EmergencyStop (b ∷ bs) o l h = absurd (grind (arith, tells))
fields_only Sign [] o l h = let e : sign ≡ o = cc in subst (λ (x : OrderValue). Written x Sign []) e (refl, refl, tt)
fields_only Sign (b ∷ bs) o l h = absurd (grind (arith, tells))
fields_only Permission [] o l h = let e : permission ≡ o = cc in subst (λ (x : OrderValue). Written x Permission []) e (refl, refl, tt)
fields_only Permission (b ∷ bs) o l h = absurd (grind (arith, tells))
