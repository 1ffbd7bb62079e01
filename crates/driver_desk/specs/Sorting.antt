-- Lists kept in order by a test of two elements, and what passes a test.
use Rattle.std.specs.Prelude.{ℕ, ◌+◌, Bool, false, cond, ◌||◌, List, [], ◌∷◌}

-- a goes in front of the first that is not before it
abbrev pub put : {X : Type 0} → (X → X → Bool) → X → List X → List X
put before a [] = a ∷ []
put before a (b ∷ bs) = cond (before b a) (b ∷ put before a bs) (a ∷ b ∷ bs)

-- whether one of them passes
abbrev pub some : {X : Type 0} → (X → Bool) → List X → Bool
some test [] = false
some test (x ∷ xs) = test x || some test xs

-- how many of them pass
abbrev pub tally : {X : Type 0} → (X → Bool) → List X → ℕ
tally test [] = 0
tally test (x ∷ xs) = cond (test x) 1 0 + tally test xs
