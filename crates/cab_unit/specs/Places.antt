-- What the requests that are kept in no order mean: the same requests, in the order `before`.
use Rattle.std.specs.Prelude.{ℕ, ◌≤◌, Bool, List, [], ◌∷◌}
use Rattle.arrayvec.specs.ArrayVec.{ArrayVec}
use Rattle.cab_unit.specs.declared.limits.TheConstants.{MOST_TEXTS}
use Rattle.driver_desk.specs.Requests.{before, is_for}
use Rattle.driver_desk.specs.Sorting.{put, tally}
use Rattle.driver_desk.specs.declared.request.Class.{Class}
use Rattle.driver_desk.specs.declared.request.Class.TheVariants as class
use Rattle.driver_desk.specs.declared.request.Request.{Request}

abbrev pub sorted : {X : Type 0} → (X → X → Bool) → List X → List X
sorted before [] = []
sorted before (x ∷ xs) = put before x (sorted before xs)

abbrev pub ordered : ArrayVec Request → List Request
ordered v = sorted before v.items

-- how many of a class may wait
abbrev pub limit : Class → ℕ
limit class.Trip = 1
limit class.Mode = 1
limit class.Level = 1
limit class.Hold = 1
limit class.Text = MOST_TEXTS

-- at most one for each class and number
abbrev pub Single : List Request → Type 0
Single l = (c : Class) (n : ℕ) → tally (is_for c n) l ≤ 1
