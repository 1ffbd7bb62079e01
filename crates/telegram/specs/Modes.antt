-- The modes: code, two-letter name, and the two bits that name one in an authority.
use Rattle.std.specs.Prelude.{ℕ, List, [], ◌∷◌, codes}
use Rattle.telegram.specs.declared.modes.Mode.{Mode}
use Rattle.telegram.specs.declared.modes.Mode.TheVariants.{Standby, StaffResponsible, FullSupervision, OnSight, LimitedSupervision, Shunting, Unfitted, Trip, PostTrip, SystemFailure}

abbrev pub mode_code : Mode → ℕ
mode_code Standby = 0
mode_code StaffResponsible = 1
mode_code FullSupervision = 2
mode_code OnSight = 3
mode_code LimitedSupervision = 4
mode_code Shunting = 5
mode_code Unfitted = 6
mode_code Trip = 7
mode_code PostTrip = 8
mode_code SystemFailure = 9

abbrev pub mode_name : Mode → List ℕ
mode_name Standby = codes "SB"
mode_name StaffResponsible = codes "SR"
mode_name FullSupervision = codes "FS"
mode_name OnSight = codes "OS"
mode_name LimitedSupervision = codes "LS"
mode_name Shunting = codes "SH"
mode_name Unfitted = codes "UN"
mode_name Trip = codes "TR"
mode_name PostTrip = codes "PT"
mode_name SystemFailure = codes "SF"

-- The two bits of a mode. Three modes are in the list of an authority; the others have none, and stand as 3, which is outside it.
abbrev pub mode_bits : Mode → ℕ
mode_bits Standby = 3
mode_bits StaffResponsible = 3
mode_bits FullSupervision = 0
mode_bits OnSight = 1
mode_bits LimitedSupervision = 2
mode_bits Shunting = 3
mode_bits Unfitted = 3
mode_bits Trip = 3
mode_bits PostTrip = 3
mode_bits SystemFailure = 3

-- The modes that an authority may name, each at the value of its two bits.
abbrev pub listed_modes : List Mode
listed_modes = FullSupervision ∷ OnSight ∷ LimitedSupervision ∷ []
