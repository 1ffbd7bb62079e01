-- How the likeness of the law over runs and what is found of two runs hang together.
use Rattle.std.specs.Prelude.{◌≡◌, ℕ, Bool, true, List, length, Option}
use Rattle.cab_unit.specs.Events.{Event}
use Rattle.cab_unit.specs.Facts.{Rising}
use Rattle.driver_desk.specs.declared.answer.Answer.{Answer}
use Rattle.bench.specs.Likeness.{told, Alike, AnswersAgree, left_open}
use Rattle.messages.specs.Shown.{Display, shown_before, messages_from}
use Rattle.messages.specs.Standing.{LinesDiffer}
use Rattle.compare.specs.Compared.{AgreeWhere, sampled, Covers, Fitting}
use Rattle.compare.specs.Marks.{opens, shown_kept}
use Rattle.compare.specs.Walked.{Compared}
use Rattle.compare.specs.declared.marks.Mark.{Mark}

-- a speed after each call of either run
abbrev pub Speeds : List (Option ℕ) → List Event → List (Option ℕ) → List Event → Type 0
Speeds vs es ws fs = (length vs ≡ length es) × (length ws ≡ length fs)

-- the lines of a window stand in its order, no two of one number
abbrev pub Stands : Display → Type 0
Stands d = Rising shown_before d.lines × LinesDiffer d.lines

-- where the samples of speed are equal, the runs as told are alike, with just the places left open that are marked;
-- and where the answers agree and every stretch fits, the messages are equal wherever they are compared
abbrev pub LawApplies : List Mark → List Event → List Answer → List Event → List Answer → Type 0
LawApplies ms es as' fs bs =
    (vs ws : List (Option ℕ)) → Speeds vs es ws fs → AgreeWhere (sampled es fs) vs ws →
    (k : Alike (told es as' vs) (told fs bs ws)) × (left_open k ≡ opens ms)
    × ((d : Display) → Stands d → AnswersAgree k → Fitting k d → AgreeWhere (shown_kept ms) (messages_from d es as') (messages_from d fs bs))

-- where the runs as told are alike, however that is shown, they are found alike, the samples of speed are equal,
-- and every marked place is left open there
abbrev pub LawFound : Bool → List Mark → List Event → List Answer → List Event → List Answer → Type 0
LawFound s ms es as' fs bs =
    (vs ws : List (Option ℕ)) → Speeds vs es ws fs → (length as' ≡ length es) → (length bs ≡ length fs) → (k : Alike (told es as' vs) (told fs bs ws)) →
    (s ≡ true) × AgreeWhere (sampled es fs) vs ws × Covers (opens ms) (left_open k)

-- found alike exactly where the law says so, and marked exactly what it leaves open
abbrev pub LawDecided : Bool → List Mark → List Event → List Answer → List Event → List Answer → Type 0
LawDecided s ms es as' fs bs = (s ≡ true → LawApplies ms es as' fs bs) × LawFound s ms es as' fs bs

-- of two runs one likeness is found, with its marks
abbrev pub OneVerdict : Type 0
OneVerdict = (s s' : Bool) (ms ms' : List Mark) (es fs : List Event) (as' bs : List Answer) → Compared s ms es as' fs bs → Compared s' ms' es as' fs bs → (s ≡ s') × (ms ≡ ms')
