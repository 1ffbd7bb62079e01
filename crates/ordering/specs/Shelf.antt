-- What a shelf holds, and what its calls leave.
use Rattle.std.specs.Prelude.{◌≡◌, ℕ, ◌<◌, ◌≤◌, List, ◌∷◌, length, take, Ok, Err, Result, slice_index_or}
use Rattle.std.specs.List.{remove}
use Rattle.ordering.specs.declared.shelf.Shelf.{Shelf}
use Rattle.ordering.specs.declared.shelf.ShelfRefusal.{ShelfRefusal}
use Rattle.ordering.specs.declared.shelf.ShelfRefusal.TheVariants.{NoFreePlace, NoSuchPosition}

module _ {X : Type 0} where
  -- The records on the shelf, front to back.
  abbrev pub items : Shelf X → List X
  items s = take s.count s.run.now

  -- How many records the shelf has room for.
  abbrev pub places : Shelf X → ℕ
  places s = length s.run.now

  -- From `m` to `n` by a call that leaves the places as many, on the slice that was lent.
  pub record SameRun (m n : Shelf X) : Type 0 where
    pub room : places n ≡ places m
    pub lent : n.run.ghost_name ≡ m.run.ghost_name

  -- From `m` to `n` by a call that puts `x` in front.
  abbrev pub PutFront : Shelf X → Shelf X → X → Result (Unit {0}) ShelfRefusal → Type 0
  PutFront m n x (Ok _) = (length (items m) < places m) × (items n ≡ x ∷ items m)
  PutFront m n x (Err NoFreePlace) = (length (items m) ≡ places m) × (n ≡ m)
  PutFront m n x (Err NoSuchPosition) = ⊥

  -- From `m` to `n` by a call that takes out the record at position `p`; the others keep their order.
  abbrev pub TakenOut : Shelf X → Shelf X → ℕ → Result X ShelfRefusal → Type 0
  TakenOut m n p (Ok x) = (p < length (items m)) × (x ≡ slice_index_or (items m) p x) × (items n ≡ remove (items m) p)
  TakenOut m n p (Err NoSuchPosition) = (length (items m) ≤ p) × (n ≡ m)
  TakenOut m n p (Err NoFreePlace) = ⊥
