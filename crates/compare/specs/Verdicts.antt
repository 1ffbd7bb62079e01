-- What is found of two runs, and what that says of them.
use Rattle.std.specs.Prelude.{◌≡◌, ◌↔◌, ℕ, true, List, map, length, take, vec_items, Option}
use Rattle.std.specs.Borrow.{Bor}
use Rattle.cab_unit.specs.Events.{Event, said}
use Rattle.driver_desk.specs.declared.answer.Answer.{Answer}
use Rattle.bench.specs.Both.{TwoRuns}
use Rattle.bench.specs.Laws.{SameEnd, told_of}
use Rattle.bench.specs.Likeness.{Told, told, Alike, AnswersAgree, left_open}
use Rattle.bench.specs.Runs.{Run}
use Rattle.messages.specs.Shown.{dark, messages_of}
use Rattle.messages.specs.Texts.{words}
use Rattle.cab_unit.specs.Events.{unblocked}
use Rattle.compare.specs.Compared.{Tallied, sampled, Covers, Fitting, unspeeded}
use Rattle.compare.specs.Marks.{opens, kept, shown_kept}
use Rattle.compare.specs.Walked.{Compared}
use Rattle.compare.specs.declared.marks.Mark.{Mark}
use Rattle.compare.specs.declared.run.Run.{Run as RunGiven}
use Rattle.compare.specs.declared.verdict.Tallies.{Tallies}
use Rattle.compare.specs.declared.verdict.Verdict.{Verdict}

-- the lists of a run
pub record Lists : Type 0 where
  pub calls : List Event
  pub answers : List Answer
  pub speeds : List (Option ℕ)

abbrev pub lists_of : RunGiven → Lists
lists_of r = record { calls = map said r.calls.now; answers = r.answers.now; speeds = r.speeds.now }

abbrev pub lists_in : Run → Lists
lists_in r = record { calls = r.calls; answers = r.answers; speeds = r.speeds }

abbrev pub told_in : Lists → List Told
told_in l = told l.calls l.answers l.speeds

-- each call has its answer and its speed
abbrev pub Whole : Lists → Type 0
Whole l = (length l.answers ≡ length l.calls) × (length l.speeds ≡ length l.calls)

-- the words of messages
abbrev pub shown_words : List (Option (Bor (List ℕ))) → List (Option (List ℕ))
shown_words ms = map words ms

-- the samples of speed are compared, the answers where none is left open, and the messages where no stretch goes on
pub record TalliesOf (one other : Lists) (marks : List Mark) (shown other_shown : List (Option (List ℕ))) (t : Tallies) : Type 0 where
  pub speeds : Tallied (sampled one.calls other.calls) (take (length marks) one.speeds) (take (length marks) other.speeds) t.speeds
  pub answers : Tallied (kept marks) (take (length marks) one.answers) (take (length marks) other.answers) t.answers
  pub messages : Tallied (shown_kept marks) (take (length marks) shown) (take (length marks) other_shown) t.messages

-- the verdict of two runs: their likeness with its marks, the messages that the windows show, and the tallies
pub record Found (one other : Lists) (v : Verdict) : Type 0 where
  pub likeness : Compared v.alike (vec_items v.marks) one.calls one.answers other.calls other.answers
  pub messages : shown_words (vec_items v.messages) ≡ messages_of one.calls one.answers
  pub other_messages : shown_words (vec_items v.other_messages) ≡ messages_of other.calls other.answers
  pub tallies : TalliesOf one other (vec_items v.marks) (messages_of one.calls one.answers) (messages_of other.calls other.answers) v.tallies

-- found alike exactly where the likeness of the law over runs can be shown, whatever the speeds, and with no sample of speed that differs
-- exactly where it can be shown of the runs as they are. However it is shown, a marked place is left open there;
-- and it can be shown so that just the marked places are left open
pub record Decided (one other : Lists) (v : Verdict) : Type 0 where
  pub alike : (v.alike ≡ true) ↔ Alike (unspeeded (told_in one)) (unspeeded (told_in other))
  pub likeness : Alike (told_in one) (told_in other) ↔ (v.alike ≡ true) × (v.tallies.speeds.differing ≡ 0)
  pub open_places : (k : Alike (told_in one) (told_in other)) → Covers (opens (vec_items v.marks)) (left_open k)
  pub shown : v.alike ≡ true → v.tallies.speeds.differing ≡ 0 →
      (k : Alike (told_in one) (told_in other)) × (left_open k ≡ opens (vec_items v.marks))
      × (AnswersAgree k → v.tallies.answers.differing ≡ 0) × (AnswersAgree k → Fitting k dark → v.tallies.messages.differing ≡ 0)

-- the ends had equal speeds at switching on, and at each sample since
abbrev pub SpeedsEqual : TwoRuns → Verdict → Type 0
SpeedsEqual rs v = (rs.one.before ≡ rs.other.before) × (v.tallies.speeds.differing ≡ 0)

-- the lists of calls are the same, up to the blocks of cycles
abbrev pub SameList : TwoRuns → Type 0
SameList rs = map unblocked rs.one.calls ≡ map unblocked rs.other.calls

-- what a verdict says of two cabs.
-- Where the lists are alike and the speeds equal, no answer that is compared differs, and the units end equal;
-- and where every stretch that came in another order fits into the window, no message that is compared differs.
-- One list is found alike; and where its speeds are equal, so are all answers and all messages
pub record Concluded (rs : TwoRuns) (v : Verdict) : Type 0 where
  pub answers : v.alike ≡ true → SpeedsEqual rs v → v.tallies.answers.differing ≡ 0
  pub ends : v.alike ≡ true → SpeedsEqual rs v → SameEnd rs.one.last rs.other.last
  pub messages : v.alike ≡ true → SpeedsEqual rs v →
      (k : Alike (told_of rs.one) (told_of rs.other)) × (left_open k ≡ opens (vec_items v.marks)) × (Fitting k dark → v.tallies.messages.differing ≡ 0)
  pub one_list_alike : SameList rs → v.alike ≡ true
  pub one_list_answers : SameList rs → SpeedsEqual rs v → rs.one.answers ≡ rs.other.answers
  pub one_list_messages : SameList rs → SpeedsEqual rs v → shown_words (vec_items v.messages) ≡ shown_words (vec_items v.other_messages)

-- the verdict on two cabs
pub record VerdictOf (rs : TwoRuns) (v : Verdict) : Type 0 where
  pub found : Found (lists_in rs.one) (lists_in rs.other) v
  pub decided : Decided (lists_in rs.one) (lists_in rs.other) v
  pub concluded : Concluded rs v

-- the tallies are the same
pub record SameTallies (t u : Tallies) : Type 0 where
  pub speeds : t.speeds ≡ u.speeds
  pub answers : t.answers ≡ u.answers
  pub messages : t.messages ≡ u.messages

-- of two runs with their marks and messages one tally is found
abbrev pub OneTally : Type 0
OneTally = (one other : Lists) (marks : List Mark) (shown other_shown : List (Option (List ℕ))) (t u : Tallies) →
    TalliesOf one other marks shown other_shown t → TalliesOf one other marks shown other_shown u → SameTallies t u
