-- The columns of tab-separated rows: their order and their names.
use Rattle.std.specs.Prelude.{ℕ, List, [], ◌∷◌, ◌++◌, map, codes}
use Rattle.columns.specs.declared.names.Column.{Column}
use Rattle.columns.specs.declared.names.Column.TheVariants.{Outcome, Mode, Level, Brake, Buttons, Waiting, First, Raised, Acked, Withdrawn}

-- columns with a tab between two
abbrev pub tabbed : List ℕ → List (List ℕ) → List ℕ
tabbed first [] = first
tabbed first (column ∷ rest) = first ++ (9 ∷ tabbed column rest)

abbrev pub column_name : Column → List ℕ
column_name Outcome = codes "outcome"
column_name Mode = codes "mode"
column_name Level = codes "level"
column_name Brake = codes "brake"
column_name Buttons = codes "buttons"
column_name Waiting = codes "waiting"
column_name First = codes "first"
column_name Raised = codes "raised"
column_name Acked = codes "acked"
column_name Withdrawn = codes "withdrawn"

-- the columns of an answer, as they stand in a row
abbrev pub columns : List Column
columns = Outcome ∷ Mode ∷ Level ∷ Brake ∷ Buttons ∷ Waiting ∷ First ∷ Raised ∷ Acked ∷ Withdrawn ∷ []

-- line, cab and call stand before them, speed and message behind
abbrev pub heading : List ℕ
heading = tabbed (codes "line") (codes "cab" ∷ codes "call" ∷ (map column_name columns ++ (codes "speed" ∷ codes "message" ∷ [])))
