-- A strict order of records, and which record of a run is the first by it.
use Rattle.std.specs.Prelude.{◌≡◌, ℕ, ◌+◌, ◌<◌, Bool, true, false, cond, not, ◌||◌, List, [], ◌∷◌, length, Some, None, Option, ◌≢◌, slice_index_or}

abbrev pub exactly_one : Bool → Bool → Bool → Bool
exactly_one true b c = not (b || c)
exactly_one false true c = not c
exactly_one false false c = c

module _ {X : Type 0} (before : X → X → Bool) where
  -- The place of the best, once `best` at `place` has met the records left; the first of these stands at `next`.
  abbrev pub best_place : X → ℕ → ℕ → List X → ℕ
  best_place best place next [] = place
  best_place best place next (x ∷ xs) = cond (before x best) (best_place x next (next + 1) xs) (best_place best place (next + 1) xs)

  -- The place that is chosen: the best so far gives way only to a later record that is before it.
  abbrev pub chosen : List X → Option ℕ
  chosen [] = None
  chosen (x ∷ xs) = Some (best_place x 0 1 xs)

  -- No record of the run is before the one at the place; there is no place only in an empty run.
  abbrev pub NoneBefore : List X → Option ℕ → Type 0
  NoneBefore xs None = length xs ≡ 0
  NoneBefore xs (Some i) = (i < length xs) × ((k : ℕ) (d : X) → k < length xs → before (slice_index_or xs k d) (slice_index_or xs i d) ≡ false)

  -- The record at the place is before all others; there is no place only in an empty run.
  abbrev pub Leads : List X → Option ℕ → Type 0
  Leads xs None = length xs ≡ 0
  Leads xs (Some i) = (i < length xs) × ((k : ℕ) (d : X) → k < length xs → (k ≢ i) → before (slice_index_or xs i d) (slice_index_or xs k d) ≡ true)

module _ {X : Type 0} (same : X → X → Bool) where
  -- No two places of the run hold the same.
  abbrev pub Apart : List X → Type 0
  Apart xs = (j k : ℕ) (d : X) → j < length xs → k < length xs → same (slice_index_or xs j d) (slice_index_or xs k d) ≡ true → j ≡ k
