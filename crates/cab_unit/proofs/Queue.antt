-- What waits: few of each class, no two for one class and number, in order.
use Rattle.std.proofs.Common.{◌≡◌, ℕ, ◌+◌, ◌<◌, ◌≤◌, Bool, true, false, cond, eqb, List, [], ◌∷◌, filter, inl, inr, arith}
use Rattle.std.specs.List.{AllByRecursion}
use Rattle.std.proofs.ByRecursion.{all_kept_by, All-weaker}
use Rattle.std.proofs.lemmas.Bool.{cases_Bool, and_left}
use Rattle.std.proofs.lemmas.Bool.Decides.{nat_tests}
use Rattle.cab_unit.specs.Facts.{Rising, same_request, Apart, Few}
use Rattle.driver_desk.specs.Numbers.{class_number}
use Rattle.cab_unit.specs.Places.{limit}
use Rattle.driver_desk.specs.Requests.{before, of_class, not_of_class, is_for, number_of}
use Rattle.driver_desk.specs.Sorting.{put}
use Rattle.driver_desk.specs.declared.request.Class.{Class}
use Rattle.driver_desk.specs.declared.request.Class.TheVariants as class
use Rattle.driver_desk.specs.declared.request.Request.{Request}
use Rattle.cab_unit.proofs.Before.{before-order}
use Rattle.cab_unit.proofs.Sorted.{all_put, tally-put, rising_kept, rising_put, none-tally, tally_kept, tally_kept_same, tally_kept_none}

-- to be for the same is mutual
pub same_sym : (r x : Request) → same_request r x ≡ false → same_request x r ≡ false
same_sym r x h = grind (arith, nat_tests)

-- each is for the same as itself
pub same_self : (r : Request) → same_request r r ≡ true
same_self r = grind (arith, nat_tests)

-- every class has room for one
pub some_room : (c : Class) → 0 < limit c
some_room class.Trip = omega arith
some_room class.Mode = omega arith
some_room class.Level = omega arith
some_room class.Hold = omega arith
some_room class.Text = omega arith

-- where none of a class waits, none is for a number of it
pub none_for : (c : Class) (n : ℕ) (l : List Request) → number_of c l ≡ 0 → AllByRecursion (λ x. is_for c n x ≡ false) l
none_for c n l h = All-weaker (λ x. of_class c x ≡ false) (λ x. is_for c n x ≡ false) (λ x f. and_left (of_class c x) (eqb x.number n) f) l (none-tally (of_class c) l h)

-- a fresh request leaves no two for the same
pub apart-put : (r : Request) (l : List Request) → AllByRecursion (λ x. same_request r x ≡ false) l → Apart l → Apart (put before r l)
apart-put r [] h k = (tt, tt)
apart-put r (x ∷ xs) h k = elim (cases_Bool (before x r)) [
  | inl e ↦ simp e (all_put before (λ y. same_request x y ≡ false) r xs (same_sym r x h.0) k.0, apart-put r xs h.1 k.1)
  | inr e ↦ simp e (h, k)
]

-- a filter keeps them apart
pub apart_kept : (p : Request → Bool) (l : List Request) → Apart l → Apart (filter p l)
apart_kept p [] k = tt
apart_kept p (x ∷ xs) k = elim (cases_Bool (p x)) [
  | inl e ↦ simp e (all_kept_by p (λ y. same_request x y ≡ false) xs k.0, apart_kept p xs k.1)
  | inr e ↦ simp e (apart_kept p xs k.1)
]

-- after a class is withdrawn none of it waits
pub number_withdrawn : (c : Class) (l : List Request) → number_of c (filter (not_of_class c) l) ≡ 0
number_withdrawn c l = tally_kept_none (of_class c) (not_of_class c) (λ x h. grind (arith, nat_tests)) l

-- and of another class as many as before
pub number_other : (c k : Class) → eqb (class_number c) (class_number k) ≡ false → (l : List Request) → number_of c (filter (not_of_class k) l) ≡ number_of c l
number_other c k e l = tally_kept_same (of_class c) (not_of_class k) (λ x h. grind (arith, nat_tests)) l

-- a count of a class after one more is put in
pub number_put : (c : Class) (r : Request) (l : List Request) → number_of c (put before r l) ≡ cond (of_class c r) 1 0 + number_of c l
number_put c r l = tally-put before (of_class c) r l

-- fewer of each class are few
pub few_fewer : (l k : List Request) → ((c : Class) → number_of c l ≤ number_of c k) → Few k → Few l
few_fewer l k h f =
    let t = h class.Trip in let m = h class.Mode in let v = h class.Level in let o = h class.Hold in let x = h class.Text in
    (omega arith, omega arith, omega arith, omega arith, omega arith)

-- one more is few where there is room for its class
few_more : (c : Class) (n at' : ℕ) (t : Bool) (l : List Request) → number_of c l < limit c → Few l → Few (record { class = c; number = n; raised = at'; timed = t } ∷ l)
few_more class.Trip n at' t l h f = (omega arith, omega arith, omega arith, omega arith, omega arith)
few_more class.Mode n at' t l h f = (omega arith, omega arith, omega arith, omega arith, omega arith)
few_more class.Level n at' t l h f = (omega arith, omega arith, omega arith, omega arith, omega arith)
few_more class.Hold n at' t l h f = (omega arith, omega arith, omega arith, omega arith, omega arith)
few_more class.Text n at' t l h f = (omega arith, omega arith, omega arith, omega arith, omega arith)

-- putting one in leaves few where there is room for its class
pub few_put : (r : Request) (l : List Request) → number_of r.class l < limit r.class → Few l → Few (put before r l)
few_put r l h f =
    few_fewer (put before r l) (r ∷ l) (λ c. omega (arith, number_put c r l)) (few_more r.class r.number r.raised r.timed l h f)

-- what a list of waiting requests is like by itself
abbrev pub Queue : List Request → Type 0
Queue l = Few l × Rising before l × Apart l

-- a fresh request is put in
pub queue_put : (r : Request) (l : List Request) → number_of r.class l < limit r.class → AllByRecursion (λ x. same_request r x ≡ false) l → Queue l → Queue (put before r l)
queue_put r l h k q = (few_put r l h q.0, rising_put before-order r l q.1, apart-put r l k q.2)

-- a filter
pub queue_kept : (p : Request → Bool) (l : List Request) → Queue l → Queue (filter p l)
queue_kept p l q = (few_fewer (filter p l) l (λ c. tally_kept (of_class c) p l) q.0, rising_kept before p l q.1, apart_kept p l q.2)

-- without the first
pub queue_rest : (r : Request) (l : List Request) → Queue (r ∷ l) → Queue l
queue_rest r l q = (few_fewer l (r ∷ l) (λ c. omega arith) q.0, q.1.1, q.2.1)
