-- The book: an account of the requests, kept from outside. All that it hears of a unit is the calls
-- that were made and what came as an answer, one after another.
use Rattle.std.specs.Prelude.{◌≡◌, ℕ, ◌+◌, Bool, true, false, cond, not, ◌&&◌, ◌||◌, List, [], ◌∷◌, length, Some, None, filter, Option, ◌==◌}
use Rattle.telegram.specs.Format.{OrderValue, OrderValue.authority, OrderValue.level, OrderValue.text, OrderValue.withdrawal, OrderValue.stop, OrderValue.sign, OrderValue.permission}
use Rattle.telegram.specs.declared.modes.Mode.{Mode}
use Rattle.telegram.specs.declared.modes.Mode.TheVariants.{Standby, SystemFailure}
use Rattle.cab_unit.specs.Events.{Event, Event.cycle, Event.order, Event.press, Event.take}
use Rattle.cab_unit.specs.Facts.{same_request}
use Rattle.driver_desk.specs.Numbers.{is_mode, is_level}
use Rattle.driver_desk.specs.Requests.{before, is_for, of_class, waits}
use Rattle.driver_desk.specs.Sorting.{put, some, tally}
use Rattle.driver_desk.specs.declared.answer.Answer.{Answer}
use Rattle.driver_desk.specs.declared.level.Level.{Level}
use Rattle.driver_desk.specs.declared.level.Level.TheVariants.{Zero}
use Rattle.driver_desk.specs.declared.refusal.Refusal.{Refusal}
use Rattle.driver_desk.specs.declared.request.Class.{Class}
use Rattle.driver_desk.specs.declared.request.Class.TheVariants as class
use Rattle.driver_desk.specs.declared.request.Request.{Request}

-- what is open, in the order of requests, and counts by class and number
pub record Book : Type 0 where
  pub mode : Mode
  pub level : Level
  pub opened : List Request
  pub raisings : Class → ℕ → ℕ
  pub acknowledgements : Class → ℕ → ℕ
  pub withdrawals : Class → ℕ → ℕ

abbrev pub new_book : Book
new_book = record { mode = Standby; level = Zero; opened = []; raisings = λ c n. 0; acknowledgements = λ c n. 0; withdrawals = λ c n. 0 }

-- what an order names to be withdrawn: class level where it changes the level, and the text of a Text withdrawal
abbrev pub order_names : OrderValue → Bool → Request → Bool
order_names (authority m) level_changes r = false
order_names (level l) level_changes r = level_changes && of_class class.Level r
order_names (text n wanted t) level_changes r = false
order_names (withdrawal n) level_changes r = is_for class.Text n r
order_names stop level_changes r = false
order_names sign level_changes r = false
order_names permission level_changes r = false

-- Close desk names classes mode, level and text
abbrev pub names : Event → Bool → Request → Bool
names (cycle block) level_changes r = false
names (order o) level_changes r = order_names o level_changes r
names (press n) level_changes r = n == 9 && (of_class class.Mode r || of_class class.Level r || of_class class.Text r)
names (take t) level_changes r = false

-- what goes of the open requests without the driver's yes: the unit failed, the mode went, or the call says which
abbrev pub withdraws : Event → Mode → Mode → Level → Level → Request → Bool
withdraws e m m' l l' r = (not (is_mode m m') && (is_mode m' SystemFailure || of_class class.Mode r)) || names e (not (is_level l l')) r

abbrev pub closed : Option Request → List Request → List Request
closed None l = l
closed (Some r) l = filter (λ x. not (same_request r x)) l

abbrev pub opening : Option Request → List Request → List Request
opening None l = l
opening (Some r) l = put before r l

abbrev pub once : Option Request → Class → ℕ → ℕ
once None c n = 0
once (Some r) c n = cond (is_for c n r) 1 0

-- the requests that the book closes as withdrawals at an accepted call with this answer
abbrev pub withdrawn_by : Event → Answer → Book → List Request
withdrawn_by e a b = filter (withdraws e b.mode a.mode b.level a.level) (closed a.acknowledged b.opened)

-- in this order, so that no request is struck out by the call that raised it
abbrev pub entry : Event → Answer → Book → Book
entry e a b = record {
  mode = a.mode;
  level = a.level;
  opened = opening a.raised (filter (λ r. not (withdraws e b.mode a.mode b.level a.level r)) (closed a.acknowledged b.opened));
  raisings = λ c n. b.raisings c n + once a.raised c n;
  acknowledgements = λ c n. b.acknowledgements c n + once a.acknowledged c n;
  withdrawals = λ c n. b.withdrawals c n + tally (is_for c n) (withdrawn_by e a b);
}

-- what was refused has not happened
abbrev pub booked_at : Option Refusal → Event → Answer → Book → Book
booked_at None e a b = entry e a b
booked_at (Some r) e a b = b

abbrev pub booked : Event → Answer → Book → Book
booked e a b = booked_at a.outcome e a b

abbrev pub book_of : List Event → List Answer → Book → Book
book_of [] as' b = b
book_of (e ∷ es) [] b = b
book_of (e ∷ es) (a ∷ as') b = book_of es as' (booked e a b)

-- the same request, cycle and mark included
abbrev pub same_mark : Bool → Bool → Bool
same_mark true t = t
same_mark false t = not t

abbrev pub identical : Request → Request → Bool
identical r x = same_request r x && r.raised == x.raised && same_mark r.timed x.timed

abbrev pub is_open : Option Request → List Request → Bool
is_open None l = true
is_open (Some r) l = some (identical r) l

-- a text that is withdrawn by name is open
abbrev pub named_open : Event → List Request → Bool
named_open (cycle block) l = true
named_open (order (authority m)) l = true
named_open (order (level n)) l = true
named_open (order (text n wanted t)) l = true
named_open (order (withdrawal n)) l = waits class.Text n l
named_open (order stop) l = true
named_open (order sign) l = true
named_open (order permission) l = true
named_open (press n) l = true
named_open (take t) l = true

-- one call by the book: nothing is ended that is not open, and the count withdrawn is the book's
abbrev pub FairAt : Option Refusal → Event → Answer → Book → Type 0
FairAt None e a b = (is_open a.acknowledged b.opened ≡ true) × (named_open e b.opened ≡ true) × (a.withdrawn ≡ length (withdrawn_by e a b))
FairAt (Some r) e a b = (a.raised ≡ None) × (a.acknowledged ≡ None) × (a.withdrawn ≡ 0)

abbrev pub Fair : List Event → List Answer → Book → Type 0
Fair [] as' b = Unit {0}
Fair (e ∷ es) [] b = Unit {0}
Fair (e ∷ es) (a ∷ as') b = FairAt a.outcome e a b × Fair es as' (booked e a b)
