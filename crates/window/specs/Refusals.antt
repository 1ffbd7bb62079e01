-- The numbers of the refusals, what is printed of them, and those of the shelf below.
use Rattle.std.specs.Prelude.{ℕ, List, codes}
use Rattle.ordering.specs.declared.shelf.ShelfRefusal.{ShelfRefusal}
use Rattle.ordering.specs.declared.shelf.ShelfRefusal.TheVariants.{NoFreePlace, NoSuchPosition}
use Rattle.window.specs.declared.refusal.Refusal.{Refusal}
use Rattle.window.specs.declared.refusal.Refusal.TheVariants.{NoFreeLine, NumberThere, NoSuchLine, OutsideStore}

abbrev pub refusal_number : Refusal → ℕ
refusal_number NoFreeLine = 50
refusal_number NumberThere = 51
refusal_number NoSuchLine = 52
refusal_number OutsideStore = 53

abbrev pub refusal_text : Refusal → List ℕ
refusal_text NoFreeLine = codes "No line is free."
refusal_text NumberThere = codes "The number is there already."
refusal_text NoSuchLine = codes "There is no such line."
refusal_text OutsideStore = codes "The text lies outside the store."

-- How the window names what its shelf refuses.
abbrev pub refusal_of : ShelfRefusal → Refusal
refusal_of NoFreePlace = NoFreeLine
refusal_of NoSuchPosition = NoSuchLine
