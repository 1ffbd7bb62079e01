-- Refusals one after another.
use Rattle.std.specs.Prelude.{Bool, true, false, Some, Option}
use Rattle.driver_desk.specs.declared.refusal.Refusal.{Refusal}

-- a test that has to pass, and the refusal where it does not
abbrev pub needing : Bool → Refusal → Option Refusal → Option Refusal
needing true r next = next
needing false r next = Some r
