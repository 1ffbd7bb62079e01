-- The edges, each told by a list of calls on an unused unit.
use Rattle.std.specs.Prelude.{◌≡◌, ℕ, true, false, List, [], ◌∷◌, ◌++◌, replicate, Some, None}
use Rattle.telegram.specs.Examples as telegrams
use Rattle.telegram.specs.Format.{OrderValue.authority, OrderValue.level, OrderValue.text, OrderValue.withdrawal, OrderValue.stop, OrderValue.permission}
use Rattle.telegram.specs.declared.modes.Mode.TheVariants.{Standby, StaffResponsible, FullSupervision, OnSight, Trip}
use Rattle.train_end.specs.Bus.{bus_reading, BusEdges}
use Rattle.train_end.specs.Pulse.{PulseEdges}
use Rattle.train_end.specs.declared.brake_line.BrakeLine.TheVariants.{Released, Service, Emergency}
use Rattle.cab_unit.specs.Events.{Event, Event.cycle, Event.order, Event.press, Event.take}
use Rattle.driver_desk.specs.Numbers.{outcome_number}
use Rattle.driver_desk.specs.Requests.{first_of}
use Rattle.cab_unit.specs.State.{State}
use Rattle.cab_unit.specs.Steps.{reply, switched_on, answer_on}
use Rattle.driver_desk.specs.declared.answer.Answer.{Answer}
use Rattle.driver_desk.specs.declared.request.Class.TheVariants as class
use Rattle.bench.specs.Runs.{final_state}

-- a cycle whose bus block means standing, 5, 20 or 21 km/h
abbrev pub still : Event
still = cycle (0x80 ∷ 0x00 ∷ [])

abbrev pub rolling : Event
rolling = cycle (0x80 ∷ 0x05 ∷ [])

abbrev pub at20 : Event
at20 = cycle (0x80 ∷ 0x14 ∷ [])

abbrev pub at21 : Event
at21 = cycle (0x80 ∷ 0x15 ∷ [])

abbrev pub record' : Event
record' = take (record { driver = 12345678; length = 400; percentage = 120; speed = 160 })

-- the state after these calls on a bus end just switched on, and the answer to one more
abbrev pub ran : List Event → State
ran es = final_state bus_reading None es

abbrev pub replied : List Event → Event → Answer
replied es e = reply bus_reading e (ran es)

abbrev pub text' : ℕ → Event
text' n = order (text n true (0x48 ∷ []))

-- Level 1, record, Start, Acknowledge
abbrev pub started : List Event
started = still ∷ press 7 ∷ record' ∷ press 2 ∷ press 1 ∷ []

-- On Sight is entered in cycle 100, level 1, the train running
abbrev pub on_sight : List Event
on_sight = started ++ replicate 99 rolling ++ (order (authority OnSight) ∷ [])

-- level 2, Full Supervision, k cycles moving since the authority
abbrev pub silent : ℕ → List Event
silent k = still ∷ press 8 ∷ record' ∷ press 2 ∷ order (authority FullSupervision) ∷ replicate k rolling

abbrev pub supervised : List Event
supervised = started ++ (order (authority FullSupervision) ∷ [])

-- Switching on with no known speed shows Standby, brakes to service and enables nothing. A block of
-- 80 00 then eases the brake and enables the buttons 484.
-- The driver sets level 1, confirms a record, presses Start and acknowledges, and stands in Staff
-- Responsible.
-- A running train comes into On Sight in cycle 100, at level 1, and the driver does nothing. The
-- brake stays off in cycle 150 and comes on in 151; Acknowledge eases it.
-- Of text 9 and text 4, which come in this order without a cycle between them, text 4 waits first.
-- The withdrawal of a text that is overdue is refused with 34.
-- After 400 silent cycles the brake of a moving train is off; after one more it is at service.
-- Override may be pressed at 20 km/h; a press at 21 km/h is refused with 2.
-- Nor can a driver acknowledge a trip before the train stands: refused with 2.
-- The train ends and the telegrams have worked edges of their own, which stand last.
abbrev pub Edges : Type 0
Edges =
    ((answer_on None).mode ≡ Standby) × ((switched_on None).line ≡ Service) × ((answer_on None).buttons ≡ 0)
    × ((ran (still ∷ [])).line ≡ Released) × ((replied [] still).buttons ≡ 484)
    × ((ran started).desk.mode ≡ StaffResponsible)
    × ((ran on_sight).cycle ≡ 100)
    × ((ran (on_sight ++ replicate 50 rolling)).line ≡ Released)
    × ((ran (on_sight ++ replicate 51 rolling)).line ≡ Service)
    × ((ran (on_sight ++ replicate 51 rolling ++ (press 1 ∷ []))).line ≡ Released)
    × (first_of (ran (text' 9 ∷ text' 4 ∷ [])).waiting ≡ Some (record { class = class.Text; number = 4; raised = 0; timed = true }))
    × (outcome_number (replied (text' 9 ∷ replicate 51 still) (order (withdrawal 9))).outcome ≡ 34)
    × ((ran (silent 400)).line ≡ Released)
    × ((ran (silent 401)).line ≡ Service)
    × (outcome_number (replied (supervised ++ (at20 ∷ [])) (press 5)).outcome ≡ 0)
    × (outcome_number (replied (supervised ++ (at21 ∷ [])) (press 5)).outcome ≡ 2)
    × (outcome_number (replied (supervised ++ (rolling ∷ order stop ∷ [])) (press 1)).outcome ≡ 2)
    × BusEdges × PulseEdges × telegrams.Edges

-- The lists of those edges come to what they are meant for: On Sight in cycle 100, 400 and 401 silent cycles, Staff Responsible by an
-- Override at 20, Trip by an emergency stop.
abbrev pub ReachedEdges : Type 0
ReachedEdges =
    ((ran on_sight).desk.mode ≡ OnSight)
    × ((ran (silent 400)).desk.silence ≡ 400)
    × ((ran (silent 401)).desk.silence ≡ 401)
    × ((replied (supervised ++ (at20 ∷ [])) (press 5)).mode ≡ StaffResponsible)
    × ((ran (supervised ++ (rolling ∷ order stop ∷ []))).desk.mode ≡ Trip)

-- eleven texts, and twelve
abbrev pub eleven : List Event
eleven = text' 1 ∷ text' 2 ∷ text' 3 ∷ text' 4 ∷ text' 5 ∷ text' 6 ∷ text' 7 ∷ text' 8 ∷ text' 9 ∷ text' 10 ∷ text' 11 ∷ []

abbrev pub twelve : List Event
twelve = eleven ++ (text' 12 ∷ [])

-- Override ends the authority. In one cycle a level request is before a text. Close desk withdraws a text. On Sight raises its timed
-- request, and a repeated authority for it raises nothing. A second level order withdraws the first one's request. Twelve texts may
-- wait, and a thirteenth gives 32. Moving in Standby raises a hold, which brakes until it is acknowledged at a stand; a second cycle
-- raises no second one. An emergency stop withdraws the mode request and brakes to the emergency line. Permission ends the pending start.
abbrev pub MoreEdges : Type 0
MoreEdges =
    ((ran (supervised ++ (at20 ∷ press 5 ∷ []))).desk.authority ≡ false)
    × (first_of (ran (started ++ (text' 1 ∷ order (level 2) ∷ []))).waiting ≡ Some (record { class = class.Level; number = 2; raised = 1; timed = true }))
    × ((replied (still ∷ text' 3 ∷ []) (press 9)).withdrawn ≡ 1)
    × ((replied (still ∷ text' 3 ∷ []) (press 9)).waiting ≡ 0)
    × ((replied started (order (authority OnSight))).raised ≡ Some (record { class = class.Mode; number = 3; raised = 1; timed = true }))
    × ((replied on_sight (order (authority OnSight))).raised ≡ None)
    × ((replied (started ++ (order (level 2) ∷ [])) (order (level 1))).withdrawn ≡ 1)
    × ((replied (started ++ (order (level 2) ∷ [])) (order (level 1))).waiting ≡ 1)
    × (outcome_number (replied (twelve) (text' 13)).outcome ≡ 32)
    × ((replied (twelve) still).waiting ≡ 12)
    × ((ran (still ∷ rolling ∷ [])).line ≡ Service)
    × ((replied (still ∷ rolling ∷ []) rolling).raised ≡ None)
    × ((ran (still ∷ rolling ∷ still ∷ press 1 ∷ [])).line ≡ Released)
    × ((replied on_sight (order stop)).withdrawn ≡ 1)
    × ((replied on_sight (order stop)).waiting ≡ 1)
    × ((ran (on_sight ++ (order stop ∷ []))).line ≡ Emergency)
    × ((ran (still ∷ press 8 ∷ record' ∷ press 2 ∷ order permission ∷ [])).desk.pending ≡ false)
