-- The laws of the plans, line by line.
use Rattle.std.proofs.Common.{◌≡◌, ℕ, ◌+◌, cond, count_by, List, [], ◌∷◌, ◌++◌, map, length, vec_items, Some, None, Option, sym, refl, ap₂, ◌∙◌, arith}
use Rattle.std.proofs.lemmas.List.{map-append, length-append}
use Rattle.std.proofs.lemmas.List.Sums.{sum_by-append, sum_by-cons}
use Rattle.telegram.specs.Whole.{PlacedValue, read_whole}
use Rattle.driver_desk.specs.Records.{record_of, record_refusal}
use Rattle.driver_desk.specs.declared.refusal.Refusal.{Refusal}
use Rattle.driver_desk.specs.declared.train_record.TrainRecord.{TrainRecord}
use Rattle.cab_unit.specs.Events.{unblocked}
use Rattle.call_list.specs.declared.entry.Entry.{Entry}
use Rattle.call_list.specs.declared.entry.Entry.TheVariants.{Cycle, Telegram, Press, Record, Order}
use Rattle.plan.specs.Calls.{order_call, record_calls, entry_calls, calls_for}
use Rattle.plan.specs.Rows.{order_row, record_row, entry_rows, at_line, rows_for}
use Rattle.plan.specs.Laws.{is_of_call, OneCallEach, SameButBlocks}
use Rattle.plan.specs.declared.cab.Cab.{Cab}
use Rattle.plan.specs.declared.cab.Cab.TheVariants.{Bus, Pulse}
use Rattle.plan.specs.declared.note.Note.{Note}
use Rattle.plan.specs.declared.rows.Row.{Row}
use Rattle.plan.specs.declared.rows.Told.TheVariants as tells

-- how many rows tell of a call
abbrev of_calls : List Row → ℕ
of_calls rows = count_by (λ (r : Row). is_of_call r.told) rows

-- rows behind rows
of_calls-append : (rows more : List Row) → of_calls (rows ++ more) ≡ of_calls rows + of_calls more
of_calls-append rows more = sum_by-append (λ (r : Row). cond (is_of_call r.told) 1 0) rows more

-- each order of a telegram has its row, and the row of the ending tells of no call
telegram-rows : (n : ℕ) (os : List PlacedValue) (note : Note) → of_calls (map (at_line n) (map order_row os ++ (tells.Note note ∷ []))) ≡ length (map order_call os)
telegram-rows n [] note = refl
telegram-rows n (o ∷ os) note =
    let rest = map (at_line n) (map order_row os ++ (tells.Note note ∷ [])) in
    let first : of_calls (at_line n (order_row o) ∷ rest) ≡ 1 + of_calls rest = sum_by-cons _ (at_line n (order_row o)) rest in
    omega (arith, first, telegram-rows n os note)

record-rows : (n : ℕ) (r : Option Refusal) (t : TrainRecord) → of_calls (at_line n (record_row r) ∷ []) ≡ length (record_calls r t)
record-rows n None t = refl
record-rows n (Some refusal) t = refl

-- the rows of one line
line-rows : (n : ℕ) (cab : Cab) (e : Entry) → of_calls (map (at_line n) (entry_rows e)) ≡ length (entry_calls cab e)
line-rows n cab (Cycle bus pulse) = refl
line-rows n cab (Telegram bytes) = telegram-rows n (read_whole (vec_items bytes)).orders _
line-rows n cab (Press k) = refl
line-rows n cab (Record d l p v) = record-rows n (record_refusal (record_of d l p v)) (record_of d l p v)
line-rows n cab (Order o) = refl

pub one_call_each : OneCallEach
one_call_each cab [] = refl
one_call_each cab (l ∷ ls) =
    of_calls-append (map (at_line l.line) (entry_rows l.entry)) (rows_for ls)
    ∙ ap₂ ◌+◌ (line-rows l.line cab l.entry) (one_call_each cab ls)
    ∙ sym (length-append (entry_calls cab l.entry) (calls_for cab ls))

-- the calls of one line
line-calls : (e : Entry) → map unblocked (entry_calls Bus e) ≡ map unblocked (entry_calls Pulse e)
line-calls (Cycle bus pulse) = refl
line-calls (Telegram bytes) = refl
line-calls (Press k) = refl
line-calls (Record d l p v) = refl
line-calls (Order o) = refl

pub same_but_blocks : SameButBlocks
same_but_blocks [] = refl
same_but_blocks (l ∷ ls) =
    map-append unblocked (entry_calls Bus l.entry) (calls_for Bus ls)
    ∙ ap₂ ◌++◌ (line-calls l.entry) (same_but_blocks ls)
    ∙ sym (map-append unblocked (entry_calls Pulse l.entry) (calls_for Pulse ls))
