-- The moves that steps are made of.
use Rattle.std.specs.Prelude.{ℕ, Bool, false, cond, List, [], Some, None, filter, Option}
use Rattle.telegram.specs.declared.modes.Mode.{Mode}
use Rattle.telegram.specs.declared.modes.Mode.TheVariants.{SystemFailure}
use Rattle.driver_desk.specs.Numbers.{is_mode}
use Rattle.driver_desk.specs.Requests.{before, not_of_class, number_of}
use Rattle.driver_desk.specs.Sorting.{put}
use Rattle.cab_unit.specs.State.{State}
use Rattle.cab_unit.specs.declared.desk.Desk.{Desk}
use Rattle.driver_desk.specs.declared.level.Level.{Level}
use Rattle.driver_desk.specs.declared.request.Class.{Class}
use Rattle.driver_desk.specs.declared.request.Class.TheVariants as class
use Rattle.driver_desk.specs.declared.request.Request.{Request}

-- the desk with one part changed
abbrev pub with_mode : Mode → Desk → Desk
with_mode m d = record d { mode = m }

abbrev pub with_level : Level → Desk → Desk
with_level l d = record d { level = l }

abbrev pub with_authority : Bool → Desk → Desk
with_authority b d = record d { authority = b }

abbrev pub with_pending : Bool → Desk → Desk
with_pending b d = record d { pending = b }

abbrev pub with_silence : ℕ → Desk → Desk
with_silence n d = record d { silence = n }

abbrev pub on_desk : (Desk → Desk) → State → State
on_desk f s = record s { desk = f s.desk }

abbrev pub on_waiting : (List Request → List Request) → State → State
on_waiting f s = record s { waiting = f s.waiting }

-- another mode: what was asked of the old one is out of date
abbrev pub entered : Mode → State → State
entered m s = record s {
  desk = with_mode m s.desk;
  waiting = cond (is_mode s.desk.mode m) s.waiting (filter (not_of_class class.Mode) s.waiting);
}

-- how many that withdraws
abbrev pub withdrawn_at : Mode → State → ℕ
withdrawn_at m s = cond (is_mode s.desk.mode m) 0 (number_of class.Mode s.waiting)

-- System Failure: nothing waits any more, no authority is held and no start is pending
abbrev pub failing : State → State
failing s = record s {
  desk = with_authority false (with_pending false (with_mode SystemFailure s.desk));
  waiting = [];
}

abbrev pub request : Class → ℕ → Bool → State → Request
request c n timed s = record { class = c; number = n; raised = s.cycle; timed = timed }

abbrev pub raised : Class → ℕ → Bool → State → State
raised c n timed s = on_waiting (put before (request c n timed s)) s

-- a state, with what an answer tells of how it came about
pub record Change : Type 0 where
  pub state : State
  pub raising : Option Request
  pub ended : Option Request
  pub withdrawn : ℕ

abbrev pub change : State → Option Request → Option Request → ℕ → Change
change s r e n = record { state = s; raising = r; ended = e; withdrawn = n }

abbrev pub quiet : State → Change
quiet s = change s None None 0

-- a request is raised in a state, after n were withdrawn
abbrev pub raising : Class → ℕ → Bool → State → ℕ → Change
raising c n timed s k = change (raised c n timed s) (Some (request c n timed s)) None k
