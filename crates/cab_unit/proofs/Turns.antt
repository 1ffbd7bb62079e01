-- Requests for different classes or numbers have different turns.
use Rattle.std.proofs.Common.{◌≡◌, ◌+◌, ◌≤◌, false, List, [], ◌∷◌, arith}
use Rattle.std.specs.List.{AllByRecursion}
use Rattle.std.proofs.ByRecursion.{All-weaker}
use Rattle.std.proofs.lemmas.Bool.Decides.{nat_tests}
use Rattle.cab_unit.specs.Facts.{same_request}
use Rattle.cab_unit.specs.Places.{Single}
use Rattle.driver_desk.specs.Requests.{before}
use Rattle.driver_desk.specs.Sorting.{tally}
use Rattle.driver_desk.specs.declared.request.Request.{Request}
use Rattle.cab_unit.proofs.Places.{Told, AllTold}
use Rattle.cab_unit.proofs.Queue.{same_self}
use Rattle.cab_unit.proofs.Sorted.{none-tally}

-- two for different classes or numbers have different turns
pub told-apart : (a b : Request) → same_request a b ≡ false → Told before a b
told-apart a b h = grind (arith, nat_tests)

-- where one waits at most, the others are for another class or number
pub single_first : (x : Request) (xs : List Request) → Single (x ∷ xs) → AllByRecursion (λ y. same_request x y ≡ false) xs
single_first x xs h =
    let e = same_self x in
    let one : 1 + tally (same_request x) xs ≤ 1 = simp e at (h x.class x.number) in
    none-tally (same_request x) xs (omega arith)

-- so of any two one is before the other
pub single_told : (l : List Request) → Single l → AllTold before l
single_told [] h = tt
single_told (x ∷ xs) h =
    (All-weaker (λ y. same_request x y ≡ false) (Told before x) (told-apart x) xs (single_first x xs h), single_told xs (λ c n. omega (arith, h c n)))
