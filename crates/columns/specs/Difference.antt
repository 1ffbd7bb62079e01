-- In which column two answers differ first.
use Rattle.std.specs.Prelude.{◌≡◌, ℕ, ◌<◌}
use Rattle.driver_desk.specs.declared.answer.Answer.{Answer}
use Rattle.columns.specs.declared.names.Column.{Column}
use Rattle.columns.specs.declared.names.Column.TheVariants.{Outcome, Mode, Level, Brake, Buttons, Waiting, First, Raised, Acked, Withdrawn}

-- where a column stands among those of an answer
abbrev pub column_place : Column → ℕ
column_place Outcome = 0
column_place Mode = 1
column_place Level = 2
column_place Brake = 3
column_place Buttons = 4
column_place Waiting = 5
column_place First = 6
column_place Raised = 7
column_place Acked = 8
column_place Withdrawn = 9

-- two answers have the same in this column
abbrev pub SamePart : Column → Answer → Answer → Type 0
SamePart Outcome a b = a.outcome ≡ b.outcome
SamePart Mode a b = a.mode ≡ b.mode
SamePart Level a b = a.level ≡ b.level
SamePart Brake a b = a.line ≡ b.line
SamePart Buttons a b = a.buttons ≡ b.buttons
SamePart Waiting a b = a.waiting ≡ b.waiting
SamePart First a b = a.first ≡ b.first
SamePart Raised a b = a.raised ≡ b.raised
SamePart Acked a b = a.acknowledged ≡ b.acknowledged
SamePart Withdrawn a b = a.withdrawn ≡ b.withdrawn

-- two answers differ in this column, and in none before it
abbrev pub DifferFirst : Column → Answer → Answer → Type 0
DifferFirst c a b = (SamePart c a b → ⊥) × ((d : Column) → column_place d < column_place c → SamePart d a b)
