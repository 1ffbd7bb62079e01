-- The kinds of orders: the number of each, and the lengths that it takes.
use Rattle.std.specs.Prelude.{ℕ, Bool, cond, ◌&&◌, Ok, Err, Result, ◌==◌, nat_le}
use Rattle.telegram.specs.declared.faults.Fault.{Fault}
use Rattle.telegram.specs.declared.faults.Fault.TheVariants.{UnknownKind}
use Rattle.telegram.specs.declared.kinds.Kind.{Kind}
use Rattle.telegram.specs.declared.kinds.Kind.TheVariants.{Authority, Level, Text, TextWithdrawal, EmergencyStop, Sign, Permission}

abbrev pub kind_number : Kind → ℕ
kind_number Authority = 1
kind_number Level = 2
kind_number Text = 3
kind_number TextWithdrawal = 4
kind_number EmergencyStop = 5
kind_number Sign = 6
kind_number Permission = 7

-- The kind with a number, or the refusal of a number that no kind has.
abbrev pub kind_numbered : ℕ → Result Kind Fault
kind_numbered n =
    cond (n == 1) (Ok Authority)
    (cond (n == 2) (Ok Level)
    (cond (n == 3) (Ok Text)
    (cond (n == 4) (Ok TextWithdrawal)
    (cond (n == 5) (Ok EmergencyStop)
    (cond (n == 6) (Ok Sign)
    (cond (n == 7) (Ok Permission)
    (Err UnknownKind)))))))

-- Whether an order of a kind may have this length, in bytes, the first two included.
abbrev pub takes_length : Kind → ℕ → Bool
takes_length Authority n = n == 3
takes_length Level n = n == 3
takes_length Text n = nat_le 5 n && nat_le n 204
takes_length TextWithdrawal n = n == 3
takes_length EmergencyStop n = n == 2
takes_length Sign n = n == 2
takes_length Permission n = n == 2
