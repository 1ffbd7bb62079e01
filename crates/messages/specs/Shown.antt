-- What a cab's message window shows over a run of calls.
use Rattle.std.specs.Prelude.{ℕ, ◌+◌, min, Bool, cond, not, ◌&&◌, ◌||◌, List, [], ◌∷◌, length, take as first_ones, filter, Some, None, Option, ◌==◌, nat_lt}
use Rattle.telegram.specs.Format.{OrderValue, OrderValue.authority, OrderValue.level, OrderValue.text, OrderValue.withdrawal, OrderValue.stop, OrderValue.sign, OrderValue.permission}
use Rattle.driver_desk.specs.Answers.{is_accepted}
use Rattle.driver_desk.specs.Requests.{of_class}
use Rattle.driver_desk.specs.Sorting.{put}
use Rattle.driver_desk.specs.declared.answer.Answer.{Answer}
use Rattle.driver_desk.specs.declared.request.Class.TheVariants as class
use Rattle.driver_desk.specs.declared.request.Request.{Request}
use Rattle.cab_unit.specs.Events.{Event, Event.cycle, Event.order, Event.press, Event.take}

-- a line of the window: the cycle that it came in, its text's number and its words
pub record ShownLine : Type 0 where
  pub cycle : ℕ
  pub number : ℕ
  pub words : List ℕ

-- the line with the larger cycle is before; in one cycle, the one with the smaller number
abbrev pub shown_before : ShownLine → ShownLine → Bool
shown_before x y = nat_lt y.cycle x.cycle || (x.cycle == y.cycle && nat_lt x.number y.number)

-- the cycle number, and the lines, each before those behind it
pub record Display : Type 0 where
  pub cycle : ℕ
  pub lines : List ShownLine

-- a window that shows nothing
abbrev pub dark : Display
dark = record { cycle = 0; lines = [] }

abbrev pub showing : List ShownLine → Display → Display
showing ls d = record { cycle = d.cycle; lines = ls }

-- the lines of other texts
abbrev pub without : ℕ → List ShownLine → List ShownLine
without n ls = filter (λ l. not (l.number == n)) ls

-- a window has twelve lines; where all are in use, the last makes room
abbrev pub making_room : List ShownLine → List ShownLine
making_room ls = cond (nat_lt (length ls) 12) ls (first_ones 11 ls)

-- a text comes in, in place of one with its number
abbrev pub with_text : ℕ → List ℕ → Display → Display
with_text n t d = showing (put shown_before (record { cycle = d.cycle; number = n; words = t }) (making_room (without n d.lines))) d

abbrev pub with_order : OrderValue → Display → Display
with_order (authority m) d = d
with_order (level l) d = d
with_order (text n wanted t) d = with_text n t d
with_order (withdrawal n) d = showing (without n d.lines) d
with_order stop d = d
with_order sign d = d
with_order permission d = d

-- a text that was acknowledged goes
abbrev pub with_acknowledged : Option Request → Display → Display
with_acknowledged None d = d
with_acknowledged (Some r) d = cond (of_class class.Text r) (showing (without r.number d.lines) d) d

-- what an accepted call does: a cycle counts on to the last number, Close desk clears the window
abbrev pub with_call : Event → Answer → Display → Display
with_call (cycle block) a d = record { cycle = min (d.cycle + 1) 4294967295; lines = d.lines }
with_call (order o) a d = with_order o d
with_call (press n) a d = cond (n == 9) (showing [] d) (with_acknowledged a.acknowledged d)
with_call (take t) a d = d

-- a refused call leaves the window
abbrev pub after_call : Event → Answer → Display → Display
after_call e a d = cond (is_accepted a) (with_call e a d) d

abbrev pub after_calls : List Event → List Answer → Display → Display
after_calls [] as' d = d
after_calls (e ∷ es) [] d = d
after_calls (e ∷ es) (a ∷ as') d = after_calls es as' (after_call e a d)

-- the words of the top line; none where no line stands
abbrev pub top : List ShownLine → Option (List ℕ)
top [] = None
top (l ∷ ls) = Some l.words

-- the top message after each call
abbrev pub messages_from : Display → List Event → List Answer → List (Option (List ℕ))
messages_from d [] as' = []
messages_from d (e ∷ es) [] = []
messages_from d (e ∷ es) (a ∷ as') = top (after_call e a d).lines ∷ messages_from (after_call e a d) es as'

abbrev pub messages_of : List Event → List Answer → List (Option (List ℕ))
messages_of es as' = messages_from dark es as'
