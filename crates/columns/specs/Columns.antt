-- What stands in the columns of a tab-separated row behind the name of the call.
use Rattle.std.specs.Prelude.{ℕ, List, [], ◌∷◌, Option, codes, decimal}
use Rattle.train_end.specs.Line.{line_number}
use Rattle.telegram.specs.Modes.{mode_name}
use Rattle.driver_desk.specs.Numbers.{level_number, outcome_number}
use Rattle.driver_desk.specs.declared.answer.Answer.{Answer}
use Rattle.plan.specs.Notes.{note_number}
use Rattle.plan.specs.declared.note.Note.{Note}
use Rattle.plan.specs.declared.note.Note.TheVariants.{Draft, End, Fault}
use Rattle.columns.specs.Names.{tabbed}
use Rattle.columns.specs.Words.{request_column, speed_column}
use Rattle.columns.specs.declared.names.Column.{Column}
use Rattle.columns.specs.declared.names.Column.TheVariants.{Outcome, Mode, Level, Brake, Buttons, Waiting, First, Raised, Acked, Withdrawn}

-- what one column tells of an answer
abbrev pub column_words : Column → Answer → List ℕ
column_words Outcome a = decimal (outcome_number a.outcome)
column_words Mode a = mode_name a.mode
column_words Level a = decimal (level_number a.level)
column_words Brake a = decimal (line_number a.line)
column_words Buttons a = decimal a.buttons
column_words Waiting a = decimal a.waiting
column_words First a = request_column a.first
column_words Raised a = request_column a.raised
column_words Acked a = request_column a.acknowledged
column_words Withdrawn a = decimal a.withdrawn

-- the columns of an answer, then the speed of the unit's own end
abbrev pub answer_columns : Answer → Option ℕ → List ℕ
answer_columns a speed = tabbed (column_words Outcome a) (
    column_words Mode a
    ∷ column_words Level a
    ∷ column_words Brake a
    ∷ column_words Buttons a
    ∷ column_words Waiting a
    ∷ column_words First a
    ∷ column_words Raised a
    ∷ column_words Acked a
    ∷ column_words Withdrawn a
    ∷ speed_column speed
    ∷ [])

-- a number for the outcome, a place or -, and - in every later column, that of the message too
abbrev pub with_no_answer : ℕ → List ℕ → List ℕ
with_no_answer outcome place = tabbed (decimal outcome) (
    place ∷ codes "-" ∷ codes "-" ∷ codes "-" ∷ codes "-" ∷ codes "-" ∷ codes "-" ∷ codes "-" ∷ codes "-" ∷ codes "-" ∷ codes "-" ∷ [])

abbrev pub note_place : Note → List ℕ
note_place (Draft refusal) = codes "-"
note_place (Fault r) = decimal r.first
note_place (End place) = decimal place

abbrev pub note_columns : Note → List ℕ
note_columns note = with_no_answer (note_number note) (note_place note)
