-- What holds of the lines behind any run of calls.
use Rattle.std.specs.Prelude.{◌≡◌, ◌≤◌, false, List, [], ◌∷◌, length, ◌==◌}
use Rattle.std.specs.List.{AllByRecursion}
use Rattle.driver_desk.specs.declared.answer.Answer.{Answer}
use Rattle.cab_unit.specs.Events.{Event}
use Rattle.cab_unit.specs.Facts.{Rising}
use Rattle.messages.specs.Shown.{ShownLine, shown_before, dark, after_calls}

-- no two lines have one number
abbrev pub LinesDiffer : List ShownLine → Type 0
LinesDiffer [] = Unit {0}
LinesDiffer (l ∷ ls) = AllByRecursion (λ m. (l.number == m.number) ≡ false) ls × LinesDiffer ls

-- they are in order, no two have one number, and twelve stand at most
abbrev pub StandingLaw : Type 0
StandingLaw = (es : List Event) (as' : List Answer) →
    Rising shown_before (after_calls es as' dark).lines × LinesDiffer (after_calls es as' dark).lines × (length (after_calls es as' dark).lines ≤ 12)
