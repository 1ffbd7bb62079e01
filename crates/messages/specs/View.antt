-- The lines of the code's window, and what they show.
use Rattle.std.specs.Prelude.{List, map}
use Rattle.window.specs.Window.{lines}
use Rattle.window.specs.declared.line.Line.{Line}
use Rattle.cab_unit.specs.Events.{Event}
use Rattle.cab_unit.specs.Places.{sorted}
use Rattle.messages.specs.Shown.{ShownLine, shown_before, Display}
use Rattle.messages.specs.Texts.{text_at}
use Rattle.messages.specs.declared.messages.Messages.{Messages}

-- a line shows the words of the call at its place
abbrev pub line_of : List Event → Line → ShownLine
line_of es l = record { cycle = l.cycle; number = l.number; words = text_at es l.place }

-- the window of a run of calls: what its lines show, in order
abbrev pub view : List Event → Messages → Display
view es m = record { cycle = m.cycle; lines = sorted shown_before (map (line_of es) (lines m.window)) }
