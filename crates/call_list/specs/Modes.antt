-- The modes by their names.
use Rattle.std.specs.Prelude.{◌≡◌, ℕ, cond, List, Some, None, Option}
use Rattle.std.specs.Str.{bytes_eq}
use Rattle.telegram.specs.Modes.{mode_name}
use Rattle.telegram.specs.declared.modes.Mode.{Mode}
use Rattle.telegram.specs.declared.modes.Mode.TheVariants.{Standby, StaffResponsible, FullSupervision, OnSight, LimitedSupervision, Shunting, Unfitted, Trip, PostTrip, SystemFailure}

-- the mode that a word names, or what else there is to say
abbrev pub named_or : List ℕ → Mode → Option Mode → Option Mode
named_or word mode other = cond (bytes_eq word (mode_name mode)) (Some mode) other

abbrev pub mode_of : List ℕ → Option Mode
mode_of word =
    named_or word Standby
    (named_or word StaffResponsible
    (named_or word FullSupervision
    (named_or word OnSight
    (named_or word LimitedSupervision
    (named_or word Shunting
    (named_or word Unfitted
    (named_or word Trip
    (named_or word PostTrip
    (named_or word SystemFailure None)))))))))

-- the law of the definition: every mode is named by its two letters
abbrev pub EveryModeIsNamed : Type 0
EveryModeIsNamed = (mode : Mode) → mode_of (mode_name mode) ≡ Some mode
