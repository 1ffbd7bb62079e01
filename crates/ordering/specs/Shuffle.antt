-- Lists with the same elements.
use Rattle.std.specs.Prelude.{List, [], ◌∷◌}

-- The second list has the elements of the first, each as often, in the same or another order.
pub data Shuffle {X : Type 0} : List X → List X → Type 0 where
  none : Shuffle [] []
  keep : {x : X} {xs ys : List X} → Shuffle xs ys → Shuffle (x ∷ xs) (x ∷ ys)
  swap : {x y : X} {xs : List X} → Shuffle (x ∷ y ∷ xs) (y ∷ x ∷ xs)
  both : {xs ys zs : List X} → Shuffle xs ys → Shuffle ys zs → Shuffle xs zs
