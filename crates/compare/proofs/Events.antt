-- Whether two calls ask the same.
use Rattle.std.proofs.Common.{◌≡◌, ℕ, Bool, true, false, ◌&&◌, ◌==◌, nat_eq, List, [], ◌∷◌, Decides, refl, ap, ap₂}
use Rattle.std.specs.Cmp.Lexicographic.{pointwise}
use Rattle.std.specs.Cmp.{booleans_Decides}
use mathlib.Core.Bool.{beq}
use denote.Enum.Declared.{Declared}
use denote.Enum.Bare.{Bare, sameb, same_true, true_same}
use Rattle.std.proofs.lemmas.Bool.{false≢true}
use Rattle.std.proofs.lemmas.Bool.Decides.{Decides-eqb, Decides-and, Decides-like}
use Rattle.telegram.specs.contracts.modes.Mode.{the_type as modes}
use Rattle.telegram.specs.Format.{OrderValue, OrderValue.authority, OrderValue.level, OrderValue.text, OrderValue.withdrawal, OrderValue.stop, OrderValue.sign, OrderValue.permission}
use Rattle.cab_unit.specs.Events.{Event, Event.cycle, Event.order, Event.press, Event.take}
use Rattle.driver_desk.specs.declared.train_record.TrainRecord.{TrainRecord}

abbrev pub same_order : OrderValue → OrderValue → Bool
same_order (authority m) (authority n) = sameb modes m n
same_order (level m) (level n) = m == n
same_order (text m v s) (text n w t) = (m == n) && (beq v w && pointwise nat_eq s t)
same_order (withdrawal m) (withdrawal n) = m == n
same_order stop stop = true
same_order sign sign = true
same_order permission permission = true
same_order _ _ = false

abbrev pub same_record : TrainRecord → TrainRecord → Bool
same_record r s = (r.driver == s.driver) && ((r.length == s.length) && ((r.percentage == s.percentage) && (r.speed == s.speed)))

abbrev pub same_event : Event → Event → Bool
same_event (cycle b) (cycle c) = pointwise nat_eq b c
same_event (order o) (order p) = same_order o p
same_event (press m) (press n) = m == n
same_event (take r) (take s) = same_record r s
same_event _ _ = false

-- lists of numbers
bytes_decide : (s t : List ℕ) → Decides (pointwise nat_eq s t) (s ≡ t)
bytes_decide [] [] = (λ _. refl, λ _. refl)
bytes_decide [] (y ∷ t) = (λ h. absurd (false≢true h), λ e. cc)
bytes_decide (x ∷ s) [] = (λ h. absurd (false≢true h), λ e. cc)
bytes_decide (x ∷ s) (y ∷ t) = Decides-like (nat_eq x y && pointwise nat_eq s t) (λ p. ap₂ ◌∷◌ p.0 p.1) (λ e. (cc, cc)) (Decides-and _ _ (Decides-eqb x y) (bytes_decide s t))

-- at an enum with no fields
bare_decides : (D : Declared) → Bare D.parts → (a b : D.D) → Decides (sameb D a b) (a ≡ b)
bare_decides D bare a b = (same_true D bare a b, true_same D a b)

never : {P : Type 0} → (P → ⊥) → Decides false P
never n = (λ h. absurd (false≢true h), λ p. absurd (n p))

orders_decide : (o p : OrderValue) → Decides (same_order o p) (o ≡ p)
orders_decide (authority m) (authority n) = Decides-like (sameb modes m n) (ap authority) (λ e. cc) (bare_decides modes tt m n)
orders_decide (level m) (level n) = Decides-like (m == n) (ap level) (λ e. cc) (Decides-eqb m n)
orders_decide (text m v s) (text n w t) =
    Decides-like ((m == n) && (beq v w && pointwise nat_eq s t))
    (λ p i. text (p.0 i) (p.1.0 i) (p.1.1 i)) (λ e. (cc, (cc, cc)))
    (Decides-and _ _ (Decides-eqb m n) (Decides-and _ _ (booleans_Decides v w) (bytes_decide s t)))
orders_decide (withdrawal m) (withdrawal n) = Decides-like (m == n) (ap withdrawal) (λ e. cc) (Decides-eqb m n)
orders_decide stop stop = (λ _. refl, λ _. refl)
orders_decide sign sign = (λ _. refl, λ _. refl)
orders_decide permission permission = (λ _. refl, λ _. refl)
orders_decide _ _ = never (λ e. cc)

records_decide : (r s : TrainRecord) → Decides (same_record r s) (r ≡ s)
records_decide r s =
    Decides-like (same_record r s)
    (λ p i. record { driver = p.0 i; length = p.1.0 i; percentage = p.1.1.0 i; speed = p.1.1.1 i })
    (λ e. (λ i. (e i).driver, (λ i. (e i).length, (λ i. (e i).percentage, λ i. (e i).speed))))
    (Decides-and _ _ (Decides-eqb _ _) (Decides-and _ _ (Decides-eqb _ _) (Decides-and _ _ (Decides-eqb _ _) (Decides-eqb _ _))))

pub events_decide : (e f : Event) → Decides (same_event e f) (e ≡ f)
events_decide (cycle b) (cycle c) = Decides-like (pointwise nat_eq b c) (ap cycle) (λ e. cc) (bytes_decide b c)
events_decide (order o) (order p) = Decides-like (same_order o p) (ap order) (λ e. cc) (orders_decide o p)
events_decide (press m) (press n) = Decides-like (m == n) (ap press) (λ e. cc) (Decides-eqb m n)
events_decide (take r) (take s) = Decides-like (same_record r s) (ap take) (λ e. cc) (records_decide r s)
events_decide _ _ = never (λ e. cc)
