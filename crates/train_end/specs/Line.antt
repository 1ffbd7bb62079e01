-- The brake line: its numbers, and how two relays hold it.
use Rattle.std.specs.Prelude.{◌≡◌, ℕ, ◌≤◌, Bool, true, false}
use Rattle.train_end.specs.declared.brake_line.BrakeLine.{BrakeLine}
use Rattle.train_end.specs.declared.brake_line.BrakeLine.TheVariants.{Released, Service, Emergency}

abbrev pub line_number : BrakeLine → ℕ
line_number Released = 0
line_number Service = 1
line_number Emergency = 2

-- the line by the first relay and the second, true where it is on
abbrev pub relay_line : Bool → Bool → BrakeLine
relay_line true true = Released
relay_line false true = Service
relay_line true false = Emergency
relay_line false false = Emergency

-- a relay that drops out never eases the brake, and without the second the line is at emergency
abbrev pub FailsSafe : Type 0
FailsSafe = (first second : Bool) →
    (line_number (relay_line first second) ≤ line_number (relay_line false second))
    × (line_number (relay_line first second) ≤ line_number (relay_line first false))
    × (relay_line first false ≡ Emergency)
