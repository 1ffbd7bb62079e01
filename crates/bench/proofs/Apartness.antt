-- What follows for a list with at most one request for each class and number.
use Rattle.std.proofs.Common.{◌≡◌, ℕ, ◌≤◌, Bool, true, false, eqb, List, [], ◌∷◌, Some, refl, inl, inr, arith}
use Rattle.std.proofs.ByRecursion.{All-weaker}
use Rattle.std.proofs.lemmas.Bool.{cases_Bool}
use Rattle.std.proofs.lemmas.Bool.Decides.{nat_tests}
use Rattle.cab_unit.specs.Facts.{same_request, Apart}
use Rattle.driver_desk.specs.Requests.{is_for}
use Rattle.driver_desk.specs.Sorting.{tally}
use Rattle.driver_desk.specs.declared.request.Class.{Class}
use Rattle.driver_desk.specs.declared.request.Request.{Request}
use Rattle.bench.specs.Book.{closed, identical, same_mark}
use Rattle.cab_unit.proofs.Sorted.{tally-none}
use Rattle.cab_unit.proofs.Queue.{same_self}
use Rattle.bench.proofs.Lists.{kept_others}

-- a mark is itself
mark_self : (t : Bool) → same_mark t t ≡ true
mark_self true = refl
mark_self false = refl

-- and is identical to itself
pub identical_self : (r : Request) → identical r r ≡ true
identical_self r =
    let s = same_self r in
    let m = mark_self r.timed in
    let n : eqb r.raised r.raised ≡ true = grind (arith, nat_tests) in
    simp (s, m, n)

-- what has the class and number of one has not those of another
other_for : (c : Class) (n : ℕ) (r x : Request) → is_for c n r ≡ true → same_request r x ≡ false → is_for c n x ≡ false
other_for c n r x h k = grind (arith, nat_tests)

-- at most one is counted for a class and number
pub tally-apart-once : (c : Class) (n : ℕ) (l : List Request) → Apart l → tally (is_for c n) l ≤ 1
tally-apart-once c n [] a = omega arith
tally-apart-once c n (r ∷ rs) a = elim (cases_Bool (is_for c n r)) [
  | inl e ↦
      let k = tally-none (is_for c n) rs (All-weaker (λ x. same_request r x ≡ false) (λ x. is_for c n x ≡ false) (λ x. other_for c n r x e) rs a.0) in
      simp e (omega (arith, k))
  | inr e ↦ simp e (omega (arith, tally-apart-once c n rs a.1))
]

-- closing the first leaves the rest
pub closed-first : (r : Request) (l : List Request) → Apart (r ∷ l) → closed (Some r) (r ∷ l) ≡ l
closed-first r l a = let e = same_self r in simp e (kept_others (same_request r) l a.0)
