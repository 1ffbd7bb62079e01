-- Requests to the driver: their order, and what waits.
use Rattle.std.specs.Prelude.{ℕ, ◌-◌, Bool, not, ◌&&◌, ◌||◌, List, [], ◌∷◌, Some, None, Option, ◌==◌, nat_lt}
use Rattle.driver_desk.specs.Numbers.{class_number}
use Rattle.driver_desk.specs.Sorting.{some, tally}
use Rattle.driver_desk.specs.declared.request.Class.{Class}
use Rattle.driver_desk.specs.declared.request.TheConstants.{CYCLES_TO_ACKNOWLEDGE}
use Rattle.driver_desk.specs.declared.request.Request.{Request}

-- the request of the earlier cycle comes first; of one cycle that of the lower class, and of one
-- class that of the lower number
abbrev pub before : Request → Request → Bool
before a b =
    nat_lt a.raised b.raised || (a.raised == b.raised &&
    (nat_lt (class_number a.class) (class_number b.class) || (class_number a.class == class_number b.class &&
    nat_lt a.number b.number)))

-- neither is before the other
abbrev pub same_turn : Request → Request → Bool
same_turn a b = a.raised == b.raised && (class_number a.class == class_number b.class && a.number == b.number)

abbrev pub of_class : Class → Request → Bool
of_class c r = class_number r.class == class_number c

abbrev pub not_of_class : Class → Request → Bool
not_of_class c r = not (of_class c r)

abbrev pub is_for : Class → ℕ → Request → Bool
is_for c n r = of_class c r && r.number == n

-- whether a request of this class and number is in the list
abbrev pub waits : Class → ℕ → List Request → Bool
waits c n l = some (is_for c n) l

abbrev pub number_of : Class → List Request → ℕ
number_of c l = tally (of_class c) l

abbrev pub first_of : List Request → Option Request
first_of [] = None
first_of (r ∷ rs) = Some r

abbrev pub rest_of : List Request → List Request
rest_of [] = []
rest_of (r ∷ rs) = rs

-- the driver's time to acknowledge a timed request is over
abbrev pub overdue : ℕ → Request → Bool
overdue cycle r = r.timed && nat_lt CYCLES_TO_ACKNOWLEDGE (cycle - r.raised)

abbrev pub any_overdue : ℕ → List Request → Bool
any_overdue cycle l = some (overdue cycle) l
