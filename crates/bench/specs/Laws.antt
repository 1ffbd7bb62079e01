-- The laws over runs, in words of the calls, their answers, and the state at the end.
use Rattle.std.specs.Prelude.{◌≡◌, ℕ, ◌+◌, ◌<◌, ◌≤◌, true, List, Option}
use Rattle.train_end.specs.declared.brake_line.BrakeLine.TheVariants.{Released}
use Rattle.cab_unit.specs.Events.{Event}
use Rattle.driver_desk.specs.Requests.{is_for}
use Rattle.driver_desk.specs.Sorting.{tally}
use Rattle.cab_unit.specs.State.{State}
use Rattle.driver_desk.specs.declared.request.Class.{Class}
use Rattle.bench.specs.Book.{Book, new_book, book_of, Fair}
use Rattle.bench.specs.Entries.{Entry, no_entry, entry_of, confirmable}
use Rattle.bench.specs.Likeness.{Told, told, speeds_read, Alike, AnswersAgree}
use Rattle.bench.specs.Runs.{Run, run_of}

-- what waits is what is open in the book, at most one for each class and number, and by class and number
-- raisings = acknowledgements + withdrawals + waiting
abbrev pub Balanced : Book → State → Type 0
Balanced b s =
    (b.opened ≡ s.waiting)
    × ((c : Class) (n : ℕ) → tally (is_for c n) s.waiting ≤ 1)
    × ((c : Class) (n : ℕ) → b.raisings c n ≡ b.acknowledgements c n + b.withdrawals c n + tally (is_for c n) s.waiting)

-- and at every call nothing is ended that is not open, and the count withdrawn is the book's
abbrev pub ByTheBook : Run → Type 0
ByTheBook r = Balanced (book_of r.calls r.answers new_book) r.last × Fair r.calls r.answers new_book

-- On Sight, Limited Supervision, Staff Responsible or Unfitted stood for more than 50 cycles with the line released:
-- exactly one acknowledgement or Override for that entry
abbrev pub Confirmed : Entry → State → Type 0
Confirmed t s = confirmable t.mode ≡ true → 50 < t.stood → s.line ≡ Released → t.confirmed ≡ 1

abbrev pub ConfirmedOnce : Run → Type 0
ConfirmedOnce r = Confirmed (entry_of r.calls r.answers no_entry) r.last

-- the speeds of the unit's own end are those that its reading gives for the blocks of the calls
abbrev pub SpeedsRead : Run → Type 0
SpeedsRead r = r.speeds ≡ speeds_read r.reads r.before r.calls r.answers

-- two states are equal in mode, level, what waits, and line
pub record SameEnd (s t : State) : Type 0 where
  pub mode : s.desk.mode ≡ t.desk.mode
  pub level : s.desk.level ≡ t.desk.level
  pub waiting : s.waiting ≡ t.waiting
  pub line : s.line ≡ t.line

-- two runs that are alike answer equally outside the stretches of texts, and end equal
pub record EndEqual {xs ys : List Told} (k : Alike xs ys) (s t : State) : Type 0 where
  pub answers : AnswersAgree k
  pub ends : SameEnd s t

-- a run place by place
abbrev pub told_of : Run → List Told
told_of r = told r.calls r.answers r.speeds

-- where the ends had equal speeds at switching on, runs that are alike end equal, however the likeness is shown
abbrev pub AlikeEndEqual : Run → Run → Type 0
AlikeEndEqual r t = r.before ≡ t.before → (k : Alike (told_of r) (told_of t)) → EndEqual k r.last t.last

-- the laws, of every list on every end
abbrev pub BookLaw : Type 0
BookLaw = (reads : List ℕ → Option ℕ) (speed : Option ℕ) (es : List Event) → ByTheBook (run_of reads speed es)

abbrev pub EntryLaw : Type 0
EntryLaw = (reads : List ℕ → Option ℕ) (speed : Option ℕ) (es : List Event) → ConfirmedOnce (run_of reads speed es)

abbrev pub SpeedLaw : Type 0
SpeedLaw = (reads : List ℕ → Option ℕ) (speed : Option ℕ) (es : List Event) → SpeedsRead (run_of reads speed es)

abbrev pub LikenessLaw : Type 0
LikenessLaw = (reads reads' : List ℕ → Option ℕ) (speed speed' : Option ℕ) (es fs : List Event) → AlikeEndEqual (run_of reads speed es) (run_of reads' speed' fs)
