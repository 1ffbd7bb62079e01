-- Which record of a train is refused, and why.
use Rattle.std.specs.Prelude.{◌≡◌, ℕ, ◌%◌, ◌&&◌, Some, None, Option, ◌==◌, nat_le, MatchResult, Result}
use Rattle.driver_desk.specs.Needing.{needing}
use Rattle.driver_desk.specs.declared.refusal.Refusal.{Refusal}
use Rattle.driver_desk.specs.declared.refusal.Refusal.TheVariants.{DriverNumber, TrainLength, BrakePercentage, MaximumSpeed}
use Rattle.driver_desk.specs.declared.train_record.TrainRecord.{TrainRecord}

abbrev pub record_of : ℕ → ℕ → ℕ → ℕ → TrainRecord
record_of d l p v = record { driver = d; length = l; percentage = p; speed = v }

-- each number has its range, and the speed goes in steps of 5 km/h; they are asked from the driver
-- number on, and the first that is wrong names the refusal
abbrev pub record_refusal : TrainRecord → Option Refusal
record_refusal t =
    needing (nat_le 1 t.driver && nat_le t.driver 99999999) DriverNumber
    (needing (nat_le 1 t.length && nat_le t.length 4095) TrainLength
    (needing (nat_le 10 t.percentage && nat_le t.percentage 250) BrakePercentage
    (needing (t.speed % 5 == 0 && (nat_le 5 t.speed && nat_le t.speed 600)) MaximumSpeed
    None)))

-- what comes of drafting four numbers: a draft of them, whose record is told by `train_of`, where no
-- number is refused; else the refusal
abbrev pub Drafted : {D : Type 0} → (D → TrainRecord) → TrainRecord → Result D Refusal → Type 0
Drafted train_of t result = MatchResult result
    (λ d. (train_of d ≡ t) × (record_refusal t ≡ None))
    (λ e. record_refusal t ≡ Some e)
