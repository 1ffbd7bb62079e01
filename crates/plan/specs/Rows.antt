-- Which rows tell of a call list: one for each call, and one for each thing that is no call.
use Rattle.std.specs.Prelude.{ℕ, List, [], ◌∷◌, ◌++◌, map, vec_items, Some, None, Option}
use Rattle.telegram.specs.Whole.{PlacedValue, WholeValue, read_whole}
use Rattle.driver_desk.specs.Records.{record_of, record_refusal}
use Rattle.driver_desk.specs.declared.refusal.Refusal.{Refusal}
use Rattle.call_list.specs.declared.entry.Entry.{Entry}
use Rattle.call_list.specs.declared.entry.Entry.TheVariants.{Cycle, Telegram, Press, Record, Order}
use Rattle.call_list.specs.declared.listed.Listed.{Listed}
use Rattle.plan.specs.Notes.{ending_note}
use Rattle.plan.specs.declared.note.Note.TheVariants.{Draft}
use Rattle.plan.specs.declared.rows.Places.{Places}
use Rattle.plan.specs.declared.rows.Row.{Row}
use Rattle.plan.specs.declared.rows.Told.{Told}
use Rattle.plan.specs.declared.rows.Told.TheVariants.{Call, Note}

abbrev pub places_of : PlacedValue → Places
places_of p = record { first = p.first; after = p.after }

-- a row for each order with where it stands, then how the reading ended
abbrev pub order_row : PlacedValue → Told
order_row p = Call (Some (places_of p))

abbrev pub telegram_rows : WholeValue → List Told
telegram_rows w = map order_row w.orders ++ (Note (ending_note w.ending) ∷ [])

-- the taking of a record is a call; a record that is refused is told
abbrev pub record_row : Option Refusal → Told
record_row None = Call None
record_row (Some refusal) = Note (Draft refusal)

-- what the rows of one line tell
abbrev pub entry_rows : Entry → List Told
entry_rows (Cycle bus pulse) = Call None ∷ []
entry_rows (Telegram bytes) = telegram_rows (read_whole (vec_items bytes))
entry_rows (Press n) = Call None ∷ []
entry_rows (Record d l p v) = record_row (record_refusal (record_of d l p v)) ∷ []
entry_rows (Order o) = Call None ∷ []

abbrev pub at_line : ℕ → Told → Row
at_line n t = record { line = n; told = t }

abbrev pub line_rows : Listed → List Row
line_rows l = map (at_line l.line) (entry_rows l.entry)

-- the rows of a list
abbrev pub rows_for : List Listed → List Row
rows_for [] = []
rows_for (l ∷ ls) = line_rows l ++ rows_for ls
