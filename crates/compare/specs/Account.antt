-- An account of the texts that came in one list and not yet in the other.
use Rattle.std.specs.Prelude.{◌≡◌, ℕ, ◌+◌, ◌≤◌, cond, Some, None, Option, IfSome, ◌≢◌}
use Rattle.std.specs.BTreeMap.{BTreeMap, get}
use Rattle.std.specs.Ordering.{is_eq}
use Rattle.compare.specs.Asked.{by_key}
use Rattle.compare.specs.declared.asked.TextKey.{TextKey}
use Rattle.compare.specs.declared.account.Surplus.{Surplus}

abbrev pub left_of : Option Surplus → ℕ
left_of None = 0
left_of (Some s) = s.left

abbrev pub right_of : Option Surplus → ℕ
right_of None = 0
right_of (Some s) = s.right

-- no text stands open that came equally often in both
abbrev pub Open : BTreeMap TextKey Surplus → Type 0
Open m = (q : TextKey) → IfSome (get by_key m q) (λ s. s.left ≢ s.right)

-- at k the surplus is so much more, elsewhere it is the same
abbrev pub Entered : BTreeMap TextKey Surplus → TextKey → Surplus → BTreeMap TextKey Surplus → Type 0
Entered m k more n =
    (q : TextKey) →
    right_of (get by_key n q) + left_of (get by_key m q) + cond (is_eq (by_key k q)) more.left 0
    ≡ left_of (get by_key n q) + right_of (get by_key m q) + cond (is_eq (by_key k q)) more.right 0

-- no text came more than i times more in the one, nor j times in the other
abbrev pub Bounded : ℕ → ℕ → BTreeMap TextKey Surplus → Type 0
Bounded i j m = (q : TextKey) → (left_of (get by_key m q) ≤ i) × (right_of (get by_key m q) ≤ j)
