-- The list in front of a count, after records were moved.
use Rattle.std.proofs.Common.{◌≡◌, ℕ, ◌+◌, ◌-◌, ◌<◌, ◌≤◌, List, length, get_or, take, arith}
use Rattle.std.specs.List.{remove}
use Rattle.std.proofs.lemmas.List.Edits.{length-remove}
use Rattle.std.proofs.lemmas.List.{places, same_lists, length-take}
use Rattle.std.proofs.lemmas.Bool.{cases_lt}

-- With the records behind position `p` moved up by one, one record fewer is the list without the record at `p`.
pub gap_closed : {X : Type 0} (xs ys : List X) (n p : ℕ) → n ≤ length xs → length ys ≡ length xs → p < n → ((k : ℕ) (d : X) → p ≤ k → k < p + (n - (p + 1)) → get_or ys k d ≡ get_or xs (p + 1 + (k - p)) d) → ((k : ℕ) (d : X) → k < p → get_or ys k d ≡ get_or xs k d) → take (n - 1) ys ≡ remove (take n xs) p
gap_closed xs ys n p fits long within behind front =
    let inside : p < length (take n xs) = omega (arith, length-take n xs) in
    same_lists _ _
    (omega (arith, length-take (n - 1) ys, length-take n xs, length-remove (take n xs) p inside))
    (λ k d h. grind (arith, places, cases_lt k p))
