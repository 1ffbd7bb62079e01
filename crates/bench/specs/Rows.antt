-- Rows of the unit's definitions with the numbers written out, each told by a list of calls on an unused unit.
use Rattle.std.specs.Prelude.{◌≡◌, ℕ, false, List, [], ◌∷◌, ◌++◌, map, replicate, None}
use Rattle.telegram.specs.Format.{OrderValue.authority, OrderValue.level, OrderValue.text, OrderValue.withdrawal, OrderValue.stop, OrderValue.sign, OrderValue.permission}
use Rattle.telegram.specs.Modes.{mode_code}
use Rattle.telegram.specs.declared.modes.Mode.TheVariants.{Standby, StaffResponsible, FullSupervision, OnSight, LimitedSupervision, Shunting, Unfitted, Trip, PostTrip, SystemFailure}
use Rattle.train_end.specs.Bus.{bus_reading}
use Rattle.cab_unit.specs.Events.{Event, Event.order, Event.press, Event.take}
use Rattle.driver_desk.specs.Numbers.{outcome_number}
use Rattle.driver_desk.specs.declared.level.Level.TheVariants.{Zero}
use Rattle.driver_desk.specs.declared.request.Class.TheVariants as class
use Rattle.bench.specs.Book.{Book, new_book, book_of}
use Rattle.bench.specs.Edges.{still, rolling, at20, record', ran, replied, text', started, on_sight, supervised, eleven, twelve}
use Rattle.bench.specs.Entries.{Entry, no_entry, entry_of}
use Rattle.bench.specs.Runs.{all_answers}

-- a start pending at level 2
abbrev pub pending : List Event
pending = still ∷ press 8 ∷ record' ∷ press 2 ∷ []

-- tripped by an emergency stop, and standing; then the trip acknowledged
abbrev pub tripped : List Event
tripped = started ++ (order stop ∷ still ∷ [])

abbrev pub after_trip : List Event
after_trip = tripped ++ (press 1 ∷ [])

-- at level 2, from Full Supervision, with Start pressed in Post Trip
abbrev pub pending_after_trip : List Event
pending_after_trip = pending ++ (order (authority FullSupervision) ∷ order stop ∷ still ∷ press 1 ∷ press 2 ∷ [])

-- standing in Unfitted
abbrev pub unfitted : List Event
unfitted = still ∷ record' ∷ press 2 ∷ press 1 ∷ []

-- a text that wants no acknowledgement
abbrev pub unwanted : ℕ → Event
unwanted n = order (text n false (0x48 ∷ []))

-- the modes that calls can reach, each standing: Standby, Standby with a start pending, Staff Responsible, Full Supervision, On Sight,
-- Limited Supervision, Shunting, Unfitted, Trip, Post Trip, Post Trip with a start pending
abbrev pub reached : List (List Event)
reached =
    (still ∷ []) ∷ pending ∷ started ∷ supervised ∷ (started ++ (order (authority OnSight) ∷ [])) ∷ (started ++ (order (authority LimitedSupervision) ∷ []))
    ∷ (still ∷ press 3 ∷ []) ∷ unfitted ∷ tripped ∷ after_trip ∷ pending_after_trip ∷ []

abbrev pub outcome_of : List Event → Event → ℕ
outcome_of es e = outcome_number (replied es e).outcome

-- what Authority, Level, Emergency stop and Permission meet there
abbrev pub heard_after : List Event → List ℕ
heard_after es = outcome_of es (order (authority FullSupervision)) ∷ outcome_of es (order (level 1)) ∷ outcome_of es (order stop) ∷ outcome_of es (order permission) ∷ []

-- what Sign, a text that wants acknowledgement, one that wants none, and the withdrawal of a waiting text meet there
abbrev pub always_after : List Event → List ℕ
always_after es = outcome_of es (order sign) ∷ outcome_of es (text' 200) ∷ outcome_of es (unwanted 200) ∷ outcome_of (es ++ (text' 200 ∷ [])) (order (withdrawal 200)) ∷ []

-- an Authority for each mode, in the order of the codes, heard in Staff Responsible
abbrev pub HeardRows : Type 0
HeardRows = (map heard_after reached ≡
    (30 ∷ 30 ∷ 30 ∷ 30 ∷ []) ∷ (0 ∷ 30 ∷ 30 ∷ 0 ∷ []) ∷ (0 ∷ 0 ∷ 0 ∷ 30 ∷ []) ∷ (0 ∷ 0 ∷ 0 ∷ 30 ∷ []) ∷ (0 ∷ 0 ∷ 0 ∷ 30 ∷ []) ∷ (0 ∷ 0 ∷ 0 ∷ 30 ∷ [])
    ∷ (30 ∷ 30 ∷ 30 ∷ 30 ∷ []) ∷ (30 ∷ 0 ∷ 30 ∷ 30 ∷ []) ∷ (30 ∷ 30 ∷ 30 ∷ 30 ∷ []) ∷ (30 ∷ 30 ∷ 30 ∷ 30 ∷ []) ∷ (0 ∷ 30 ∷ 30 ∷ 0 ∷ []) ∷ [])
    × (map always_after reached ≡ replicate 11 (0 ∷ 0 ∷ 0 ∷ 0 ∷ []))
    × (map (λ m. outcome_of started (order (authority m)))
    (Standby ∷ StaffResponsible ∷ FullSupervision ∷ OnSight ∷ LimitedSupervision ∷ Shunting ∷ Unfitted ∷ Trip ∷ PostTrip ∷ SystemFailure ∷ [])
    ≡ 23 ∷ 23 ∷ 0 ∷ 0 ∷ 0 ∷ 23 ∷ 23 ∷ 23 ∷ 23 ∷ 23 ∷ [])

-- the mode's code, and the enabled buttons standing and at 20 km/h
abbrev pub shown_after : List Event → List ℕ
shown_after es = mode_code (ran es).desk.mode ∷ (replied es still).buttons ∷ (replied es at20).buttons ∷ []

abbrev pub ButtonRows : Type 0
ButtonRows = map shown_after reached ≡
    (0 ∷ 484 ∷ 0 ∷ []) ∷ (0 ∷ 256 ∷ 0 ∷ []) ∷ (1 ∷ 256 ∷ 0 ∷ []) ∷ (2 ∷ 272 ∷ 16 ∷ []) ∷ (3 ∷ 273 ∷ 17 ∷ []) ∷ (4 ∷ 273 ∷ 17 ∷ [])
    ∷ (5 ∷ 264 ∷ 0 ∷ []) ∷ (6 ∷ 256 ∷ 0 ∷ []) ∷ (7 ∷ 1 ∷ 0 ∷ []) ∷ (8 ∷ 258 ∷ 0 ∷ []) ∷ (8 ∷ 256 ∷ 0 ∷ []) ∷ []

abbrev pub numbers : ℕ → ℕ → ℕ → ℕ → Event
numbers d l p v = take (record { driver = d; length = l; percentage = p; speed = v })

-- 23 is told before 30, the draft's refusal before 14, and 31 before 32; a text that is shown only is never refused; a hold takes
-- no text's room; 33 and 34 ask for the text of that number alone
abbrev pub FirstRefusals : Type 0
FirstRefusals =
    (outcome_of (still ∷ []) (order (level 3)) ≡ 23) × (outcome_of [] (numbers 0 0 0 0) ≡ 10)
    × (outcome_of twelve (text' 1) ≡ 31) × (outcome_of twelve (unwanted 1) ≡ 0)
    × (outcome_of (still ∷ rolling ∷ eleven) (text' 12) ≡ 0)
    × (outcome_of (text' 9 ∷ replicate 51 still) (order (withdrawal 4)) ≡ 33)
    × (outcome_of (text' 9 ∷ replicate 51 still ++ (text' 4 ∷ [])) (order (withdrawal 4)) ≡ 0)

-- no button 0 or 10; a button that is not enabled; numbers that no draft takes, at both ends of each range; a taking with the speed
-- unknown; a mode and a level outside their lists; a text that waits already; a text that does not wait, and one that is not overdue yet
abbrev pub RefusalRows : Type 0
RefusalRows =
    (outcome_of [] (press 0) ≡ 1) × (outcome_of [] (press 10) ≡ 1) × (outcome_of [] (press 9) ≡ 2)
    × (map (outcome_of (still ∷ [])) (numbers 0 1 10 5 ∷ numbers 1 1 10 5 ∷ numbers 99999999 4095 250 600 ∷ numbers 100000000 0 0 0 ∷ []) ≡ 10 ∷ 0 ∷ 0 ∷ 10 ∷ [])
    × (map (outcome_of (still ∷ [])) (numbers 1 0 0 0 ∷ numbers 1 4096 0 0 ∷ numbers 1 1 9 0 ∷ numbers 1 1 251 0 ∷ []) ≡ 11 ∷ 11 ∷ 12 ∷ 12 ∷ [])
    × (map (outcome_of (still ∷ [])) (numbers 1 1 10 0 ∷ numbers 1 1 10 12 ∷ numbers 1 1 10 605 ∷ []) ≡ 13 ∷ 13 ∷ 13 ∷ [])
    × (outcome_of [] record' ≡ 14)
    × (outcome_of [] (order (authority Shunting)) ≡ 23) × (outcome_of started (order (level 3)) ≡ 23)
    × (outcome_of (text' 9 ∷ []) (text' 9) ≡ 31) × (outcome_of (text' 9 ∷ []) (order (withdrawal 4)) ≡ 33)
    × (outcome_of (text' 9 ∷ replicate 50 still) (order (withdrawal 9)) ≡ 0)

abbrev pub book_after : List Event → Book
book_after es = book_of es (all_answers bus_reading None es) new_book

abbrev pub entry_after : List Event → Entry
entry_after es = entry_of es (all_answers bus_reading None es) no_entry

-- A new book: Standby, level 0, nothing open.
-- On Sight tripped: Staff Responsible was raised and acknowledged, On Sight raised and withdrawn, the trip raised, and it alone is open.
-- A level request is withdrawn by the next Level order, a text by its number, and all three kinds by Close desk, which leaves a hold.
abbrev pub BookRows : Type 0
BookRows =
    (new_book.mode ≡ Standby) × (new_book.level ≡ Zero) × (new_book.opened ≡ [])
    × ((book_after (on_sight ++ (order stop ∷ []))).raisings class.Mode 1 ≡ 1)
    × ((book_after (on_sight ++ (order stop ∷ []))).acknowledgements class.Mode 1 ≡ 1)
    × ((book_after (on_sight ++ (order stop ∷ []))).raisings class.Mode 3 ≡ 1)
    × ((book_after (on_sight ++ (order stop ∷ []))).withdrawals class.Mode 3 ≡ 1)
    × ((book_after (on_sight ++ (order stop ∷ []))).opened ≡ record { class = class.Trip; number = 0; raised = 100; timed = false } ∷ [])
    × ((book_after (started ++ (order (level 2) ∷ order (level 1) ∷ []))).withdrawals class.Level 2 ≡ 1)
    × ((book_after (text' 9 ∷ order (withdrawal 9) ∷ [])).withdrawals class.Text 9 ≡ 1)
    × ((book_after (still ∷ rolling ∷ still ∷ text' 9 ∷ press 9 ∷ [])).withdrawals class.Text 9 ≡ 1)
    × ((book_after (still ∷ rolling ∷ still ∷ text' 9 ∷ press 9 ∷ [])).opened ≡ record { class = class.Hold; number = 0; raised = 2; timed = false } ∷ [])

-- an entry stands as many cycles as the number grew, and is confirmed by the acknowledgement that makes it or ends what it asked, and by an Override
abbrev pub EntryRows : Type 0
EntryRows =
    ((entry_after (on_sight ++ replicate 51 rolling)).stood ≡ 51) × ((entry_after (on_sight ++ replicate 51 rolling)).confirmed ≡ 0)
    × ((entry_after (on_sight ++ replicate 51 rolling ++ (press 1 ∷ []))).confirmed ≡ 1)
    × ((entry_after started).confirmed ≡ 1) × ((entry_after supervised).confirmed ≡ 0)
    × ((entry_after (supervised ++ (at20 ∷ press 5 ∷ []))).confirmed ≡ 1)
    × ((entry_after (supervised ++ (at20 ∷ text' 9 ∷ press 1 ∷ []))).confirmed ≡ 0)
