-- At the last cycle number. No list is written out that comes there: the number is put into a state that a list came to.
use Rattle.std.specs.Prelude.{◌≡◌, ℕ, false, List, [], ◌∷◌, ◌++◌, map, replicate, Some}
use Rattle.telegram.specs.Format.{OrderValue.authority, OrderValue.level, OrderValue.withdrawal, OrderValue.stop, OrderValue.sign, OrderValue.permission}
use Rattle.telegram.specs.declared.modes.Mode.TheVariants.{Shunting, SystemFailure}
use Rattle.train_end.specs.Bus.{bus_reading}
use Rattle.train_end.specs.declared.brake_line.BrakeLine.TheVariants.{Emergency}
use Rattle.cab_unit.specs.Events.{Event, Event.order, Event.press}
use Rattle.cab_unit.specs.State.{State}
use Rattle.cab_unit.specs.Steps.{next, reply}
use Rattle.driver_desk.specs.Numbers.{outcome_number}
use Rattle.driver_desk.specs.Records.{record_of}
use Rattle.driver_desk.specs.declared.level.Level.TheVariants.{Two}
use Rattle.bench.specs.Edges.{still, rolling, at20, record', ran, text', silent}
use Rattle.bench.specs.Rows.{pending, numbers}
use Rattle.bench.specs.Calls.{request_numbers, desk_numbers, answer_numbers}

-- the state after a list, with this cycle number
abbrev pub at_cycle : ℕ → List Event → State
at_cycle n es =
    let s = ran es in
    record { desk = s.desk; train = s.train; cycle = n; waiting = s.waiting; speed = s.speed; line = s.line }

-- standing at the last number, with a start pending and a text waiting; and failed by one cycle more
abbrev pub at_last : State
at_last = at_cycle 4294967295 (pending ++ (text' 9 ∷ []))

abbrev pub failed : State
failed = next bus_reading at20 at_last

-- The cycle before the last number is one like others: the number grows, and a rolling train is held. At the last number the unit fails:
-- the number, the level, the record and the speed stay, the text is withdrawn, pending start and authority end, the line is at emergency.
-- Then every call is refused with 40, and leaves the unit.
abbrev pub LastRows : Type 0
LastRows =
    ((next bus_reading rolling (at_cycle 4294967294 (still ∷ []))).cycle ≡ 4294967295)
    × (request_numbers (reply bus_reading rolling (at_cycle 4294967294 (still ∷ []))).raised ≡ 3 ∷ 0 ∷ 4294967295 ∷ 0 ∷ [])
    × (failed ≡ record {
      desk = record { mode = SystemFailure; level = Two; authority = false; pending = false; silence = 0 };
      train = Some (record_of 12345678 400 120 160);
      cycle = 4294967295;
      waiting = [];
      speed = Some 0;
      line = Emergency;
    })
    × (answer_numbers (reply bus_reading at20 at_last) ≡ 0 ∷ 9 ∷ 2 ∷ 2 ∷ 0 ∷ 0 ∷ 1 ∷ [])
    × (desk_numbers (next bus_reading rolling (at_cycle 4294967295 (silent 5))).desk ≡ 9 ∷ 2 ∷ 0 ∷ 0 ∷ 0 ∷ [])
    × (map (λ e. outcome_number (reply bus_reading e failed).outcome)
    (still ∷ press 0 ∷ press 9 ∷ order (authority Shunting) ∷ order (level 3) ∷ text' 9 ∷ order (withdrawal 9) ∷ order stop ∷ order sign ∷ order permission ∷ numbers 0 0 0 0 ∷ record' ∷ [])
    ≡ replicate 12 40)
    × (map (λ e. next bus_reading e failed) (still ∷ press 9 ∷ text' 9 ∷ order sign ∷ record' ∷ []) ≡ replicate 5 failed)
