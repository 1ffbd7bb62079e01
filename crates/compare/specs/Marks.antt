-- What is compared of a place: its answer, its message, or neither.
use Rattle.std.specs.Prelude.{ℕ, zero, suc, Bool, true, false, not, List, [], ◌∷◌, map, replicate}
use Rattle.compare.specs.declared.marks.Mark.{Mark}
use Rattle.compare.specs.declared.marks.Mark.TheVariants.{Compared, Inside, Last}

-- the answer is left open: it is in a stretch of texts that came in another order
abbrev pub is_open : Mark → Bool
is_open Compared = false
is_open Inside = true
is_open Last = true

-- the message is left open: the stretch goes on
abbrev pub is_inside : Mark → Bool
is_inside Compared = false
is_inside Inside = true
is_inside Last = false

abbrev pub opens : List Mark → List Bool
opens ms = map is_open ms

-- the places whose answers are compared, and those whose messages are
abbrev pub kept : List Mark → List Bool
kept ms = map (λ m. not (is_open m)) ms

abbrev pub shown_kept : List Mark → List Bool
shown_kept ms = map (λ m. not (is_inside m)) ms

-- a stretch of so many texts that came in another order
abbrev pub stretch_marks : ℕ → List Mark
stretch_marks zero = []
stretch_marks (suc zero) = Last ∷ []
stretch_marks (suc (suc k)) = Inside ∷ stretch_marks (suc k)

-- so many places, in another order or not
abbrev pub marks_of : Bool → ℕ → List Mark
marks_of true k = stretch_marks k
marks_of false k = replicate k Compared
