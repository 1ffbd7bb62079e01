-- What single calls do, with the numbers written out, each told by a list of calls on an unused unit.
use Rattle.std.specs.Prelude.{◌≡◌, ℕ, Bool, false, cond, List, [], ◌∷◌, ◌++◌, map, replicate, Some, None, Option}
use Rattle.telegram.specs.Format.{OrderValue.authority, OrderValue.level, OrderValue.stop, OrderValue.sign, OrderValue.permission}
use Rattle.telegram.specs.Modes.{mode_code}
use Rattle.telegram.specs.declared.modes.Mode.TheVariants.{Standby, FullSupervision, OnSight, LimitedSupervision}
use Rattle.train_end.specs.Line.{line_number}
use Rattle.train_end.specs.declared.brake_line.BrakeLine.TheVariants.{Service}
use Rattle.cab_unit.specs.Buttons.{buttons_of}
use Rattle.cab_unit.specs.Events.{Event, Event.cycle, Event.order, Event.press}
use Rattle.cab_unit.specs.Steps.{switched_on}
use Rattle.cab_unit.specs.declared.desk.Desk.{Desk}
use Rattle.driver_desk.specs.Numbers.{level_number, class_number, outcome_number}
use Rattle.driver_desk.specs.Records.{record_of}
use Rattle.driver_desk.specs.Requests.{first_of}
use Rattle.driver_desk.specs.declared.answer.Answer.{Answer}
use Rattle.driver_desk.specs.declared.level.Level.TheVariants.{Zero}
use Rattle.driver_desk.specs.declared.request.Request.{Request}
use Rattle.bench.specs.Edges.{still, rolling, at20, record', ran, replied, text', started, on_sight, silent, supervised}
use Rattle.bench.specs.Rows.{pending, tripped, after_trip, unfitted, unwanted, reached, numbers}

-- a cycle whose bus block means 1 km/h, and one whose block means that the speed is unknown
abbrev pub creeping : Event
creeping = cycle (0x80 ∷ 0x01 ∷ [])

abbrev pub blind : Event
blind = cycle []

abbrev pub bit : Bool → ℕ
bit b = cond b 1 0

-- class, number, raised cycle, and 1 where it is timed
abbrev pub request_numbers : Option Request → List ℕ
request_numbers None = []
request_numbers (Some r) = class_number r.class ∷ r.number ∷ r.raised ∷ bit r.timed ∷ []

-- mode, level, authority, pending start, silence
abbrev pub desk_numbers : Desk → List ℕ
desk_numbers d = mode_code d.mode ∷ level_number d.level ∷ bit d.authority ∷ bit d.pending ∷ d.silence ∷ []

-- outcome, mode, level, line, buttons, number waiting, count withdrawn
abbrev pub answer_numbers : Answer → List ℕ
answer_numbers a = outcome_number a.outcome ∷ mode_code a.mode ∷ level_number a.level ∷ line_number a.line ∷ a.buttons ∷ a.waiting ∷ a.withdrawn ∷ []

abbrev pub desk_after : List Event → List ℕ
desk_after es = desk_numbers (ran es).desk

abbrev pub raised_by : List Event → Event → List ℕ
raised_by es e = request_numbers (replied es e).raised

abbrev pub answer_to : List Event → Event → List ℕ
answer_to es e = answer_numbers (replied es e)

-- A new unit. Full Supervision asks nothing, On Sight and Limited Supervision their own numbers. An authority, and a Sign, bring
-- silence to 0; an authority ends a pending start, a Sign does not, nor does it give an authority.
-- To level 0: Unfitted, no authority, (1, UN). From level 0: Staff Responsible, (1, SR). Between 1 and 2: the authority stays, (2, level).
-- The same level leaves the level request. An emergency stop ends authority and silence, and raises the trip.
-- Permission ends the pending start and raises untimed (1, SR), which Acknowledge enters without authority. Texts, wanted or not.
abbrev pub OrderRows : Type 0
OrderRows =
    (switched_on None ≡ record {
      desk = record { mode = Standby; level = Zero; authority = false; pending = false; silence = 0 };
      train = None;
      cycle = 0;
      waiting = [];
      speed = None;
      line = Service;
    })
    × (map (λ m. raised_by started (order (authority m))) (FullSupervision ∷ OnSight ∷ LimitedSupervision ∷ []) ≡ [] ∷ (1 ∷ 3 ∷ 1 ∷ 1 ∷ []) ∷ (1 ∷ 4 ∷ 1 ∷ 1 ∷ []) ∷ [])
    × (map desk_after (supervised ∷ (pending ++ (order (authority LimitedSupervision) ∷ [])) ∷ []) ≡ (2 ∷ 1 ∷ 1 ∷ 0 ∷ 0 ∷ []) ∷ (4 ∷ 2 ∷ 1 ∷ 0 ∷ 0 ∷ []) ∷ [])
    × (map (λ es. desk_after (silent 5 ++ es)) ([] ∷ (order (authority FullSupervision) ∷ []) ∷ (order sign ∷ []) ∷ []) ≡ (2 ∷ 2 ∷ 1 ∷ 0 ∷ 5 ∷ []) ∷ (2 ∷ 2 ∷ 1 ∷ 0 ∷ 0 ∷ []) ∷ (2 ∷ 2 ∷ 1 ∷ 0 ∷ 0 ∷ []) ∷ [])
    × (map (λ es. desk_after (es ++ (order sign ∷ []))) (pending ∷ started ∷ []) ≡ (0 ∷ 2 ∷ 0 ∷ 1 ∷ 0 ∷ []) ∷ (1 ∷ 1 ∷ 0 ∷ 0 ∷ 0 ∷ []) ∷ [])
    × (desk_after (supervised ++ (order (level 0) ∷ [])) ≡ 6 ∷ 0 ∷ 0 ∷ 0 ∷ 0 ∷ []) × (raised_by supervised (order (level 0)) ≡ 1 ∷ 6 ∷ 1 ∷ 1 ∷ [])
    × (desk_after (unfitted ++ (order (level 1) ∷ [])) ≡ 1 ∷ 1 ∷ 0 ∷ 0 ∷ 0 ∷ []) × (raised_by unfitted (order (level 1)) ≡ 1 ∷ 1 ∷ 1 ∷ 1 ∷ [])
    × (desk_after (supervised ++ (order (level 2) ∷ [])) ≡ 2 ∷ 2 ∷ 1 ∷ 0 ∷ 0 ∷ []) × (raised_by supervised (order (level 2)) ≡ 2 ∷ 2 ∷ 1 ∷ 1 ∷ [])
    × (answer_to (supervised ++ (order (level 2) ∷ [])) (order (level 2)) ≡ 0 ∷ 2 ∷ 2 ∷ 0 ∷ 273 ∷ 1 ∷ 0 ∷ [])
    × (answer_to (supervised ++ (order (level 2) ∷ [])) (order (level 0)) ≡ 0 ∷ 6 ∷ 0 ∷ 0 ∷ 257 ∷ 1 ∷ 1 ∷ [])
    × (map (λ es. desk_after (es ++ (order stop ∷ []))) (supervised ∷ silent 5 ∷ []) ≡ (7 ∷ 1 ∷ 0 ∷ 0 ∷ 0 ∷ []) ∷ (7 ∷ 2 ∷ 0 ∷ 0 ∷ 0 ∷ []) ∷ [])
    × (raised_by supervised (order stop) ≡ 0 ∷ 0 ∷ 1 ∷ 0 ∷ [])
    × (map (λ es. desk_after (pending ++ (order permission ∷ es))) ([] ∷ (press 1 ∷ []) ∷ []) ≡ (0 ∷ 2 ∷ 0 ∷ 0 ∷ 0 ∷ []) ∷ (1 ∷ 2 ∷ 0 ∷ 0 ∷ 0 ∷ []) ∷ [])
    × (raised_by pending (order permission) ≡ 1 ∷ 1 ∷ 1 ∷ 0 ∷ [])
    × (map (answer_to []) (unwanted 9 ∷ text' 9 ∷ []) ≡ (0 ∷ 0 ∷ 0 ∷ 1 ∷ 0 ∷ 0 ∷ 0 ∷ []) ∷ (0 ∷ 0 ∷ 0 ∷ 1 ∷ 1 ∷ 1 ∷ 0 ∷ []) ∷ [])
    × (raised_by [] (text' 9) ≡ 4 ∷ 9 ∷ 0 ∷ 1 ∷ [])

-- The buttons at level 1 and 2, without and with a record; with Start pressed at level 1 and 0; in Shunting with a record.
-- At 1 and 5 km/h, and standing with the hold; in Full Supervision with the speed unknown; a text and a level request are acknowledged
-- while moving, a hold is not. Then what each press leaves and raises. Exit shunting keeps level and record. Close desk keeps the level
-- and withdraws three classes; Override withdraws On Sight's request. A record held before is replaced.
abbrev pub PressRows : Type 0
PressRows =
    (map (λ es. buttons_of (ran (still ∷ es)))
    ((press 7 ∷ []) ∷ (press 7 ∷ record' ∷ []) ∷ (press 8 ∷ []) ∷ (press 8 ∷ record' ∷ []) ∷ (press 7 ∷ record' ∷ press 2 ∷ []) ∷ (record' ∷ press 2 ∷ []) ∷ (record' ∷ press 3 ∷ []) ∷ [])
    ≡ 484 ∷ 486 ∷ 480 ∷ 482 ∷ 257 ∷ 257 ∷ 264 ∷ [])
    × (map (λ es. buttons_of (ran es)) ((creeping ∷ []) ∷ (still ∷ rolling ∷ []) ∷ (still ∷ rolling ∷ still ∷ []) ∷ (supervised ++ (blind ∷ [])) ∷ []) ≡ 0 ∷ 0 ∷ 485 ∷ 0 ∷ [])
    × (map (λ es. buttons_of (ran (es ++ (rolling ∷ [])))) ((started ++ (text' 9 ∷ [])) ∷ (started ++ (order (level 2) ∷ [])) ∷ after_trip ∷ []) ≡ 1 ∷ 1 ∷ 0 ∷ [])
    × (map (λ es. desk_after (still ∷ es)) ((press 6 ∷ []) ∷ (press 7 ∷ []) ∷ (press 8 ∷ []) ∷ (press 7 ∷ press 3 ∷ []) ∷ (press 7 ∷ press 3 ∷ press 4 ∷ []) ∷ [])
    ≡ (0 ∷ 0 ∷ 0 ∷ 0 ∷ 0 ∷ []) ∷ (0 ∷ 1 ∷ 0 ∷ 0 ∷ 0 ∷ []) ∷ (0 ∷ 2 ∷ 0 ∷ 0 ∷ 0 ∷ []) ∷ (5 ∷ 1 ∷ 0 ∷ 0 ∷ 0 ∷ []) ∷ (0 ∷ 1 ∷ 0 ∷ 0 ∷ 0 ∷ []) ∷ [])
    × (map desk_after (pending ∷ (pending ++ (press 9 ∷ [])) ∷ (supervised ++ (still ∷ press 9 ∷ [])) ∷ (supervised ++ (at20 ∷ press 5 ∷ [])) ∷ (on_sight ++ (press 1 ∷ [])) ∷ [])
    ≡ (0 ∷ 2 ∷ 0 ∷ 1 ∷ 0 ∷ []) ∷ (0 ∷ 2 ∷ 0 ∷ 0 ∷ 0 ∷ []) ∷ (0 ∷ 1 ∷ 0 ∷ 0 ∷ 0 ∷ []) ∷ (1 ∷ 1 ∷ 0 ∷ 0 ∷ 0 ∷ []) ∷ (3 ∷ 1 ∷ 1 ∷ 0 ∷ 0 ∷ []) ∷ [])
    × (map (λ es. raised_by (still ∷ es) (press 2)) ((record' ∷ []) ∷ (press 7 ∷ record' ∷ []) ∷ (press 8 ∷ record' ∷ []) ∷ []) ≡ (1 ∷ 6 ∷ 1 ∷ 0 ∷ []) ∷ (1 ∷ 1 ∷ 1 ∷ 0 ∷ []) ∷ [] ∷ [])
    × (request_numbers (replied on_sight (press 1)).acknowledged ≡ 1 ∷ 3 ∷ 100 ∷ 1 ∷ [])
    × (answer_to (still ∷ press 7 ∷ record' ∷ press 3 ∷ []) (press 4) ≡ 0 ∷ 0 ∷ 1 ∷ 0 ∷ 486 ∷ 0 ∷ 0 ∷ [])
    × (answer_to (on_sight ++ (at20 ∷ [])) (press 5) ≡ 0 ∷ 1 ∷ 1 ∷ 0 ∷ 0 ∷ 0 ∷ 1 ∷ [])
    × (answer_to (on_sight ++ (order (level 2) ∷ text' 9 ∷ still ∷ [])) (press 9) ≡ 0 ∷ 0 ∷ 2 ∷ 0 ∷ 480 ∷ 0 ∷ 3 ∷ [])
    × ((ran (still ∷ record' ∷ [])).train ≡ Some (record_of 12345678 400 120 160))
    × ((ran (still ∷ record' ∷ numbers 1 1 10 5 ∷ [])).train ≡ Some (record_of 1 1 10 5))

-- In which of the modes a rolling train is held: Standby and Post Trip. At 1 km/h it is, with the speed unknown or standing it is not.
-- Silence 402, and standing in the cycle that brings it to 400 and to 401, one more, and unknown at 401. Silence counts in On Sight,
-- and not in Limited Supervision or at level 1. A train without authority stands as it is, and trips when it moves.
-- The line is released in Post Trip, and while an untimed request waits for long; a text and a level request brake when overdue.
-- The first is the one raised first. The answer shows the line that was set, and the first.
abbrev pub CycleRows : Type 0
CycleRows =
    (map (λ es. raised_by es rolling) reached ≡ (3 ∷ 0 ∷ 2 ∷ 0 ∷ []) ∷ (3 ∷ 0 ∷ 2 ∷ 0 ∷ []) ∷ [] ∷ [] ∷ [] ∷ [] ∷ [] ∷ [] ∷ [] ∷ (3 ∷ 0 ∷ 3 ∷ 0 ∷ []) ∷ (3 ∷ 0 ∷ 3 ∷ 0 ∷ []) ∷ [])
    × (map (raised_by []) (creeping ∷ blind ∷ still ∷ []) ≡ (3 ∷ 0 ∷ 1 ∷ 0 ∷ []) ∷ [] ∷ [] ∷ [])
    × (map desk_after (silent 402 ∷ (silent 399 ++ (still ∷ [])) ∷ (silent 400 ++ (still ∷ [])) ∷ (silent 400 ++ (still ∷ still ∷ [])) ∷ (silent 401 ++ (blind ∷ [])) ∷ (silent 400 ++ (still ∷ rolling ∷ [])) ∷ [])
    ≡ (2 ∷ 2 ∷ 1 ∷ 0 ∷ 401 ∷ []) ∷ (2 ∷ 2 ∷ 1 ∷ 0 ∷ 400 ∷ []) ∷ (2 ∷ 2 ∷ 0 ∷ 0 ∷ 0 ∷ []) ∷ (2 ∷ 2 ∷ 0 ∷ 0 ∷ 0 ∷ []) ∷ (2 ∷ 2 ∷ 1 ∷ 0 ∷ 401 ∷ []) ∷ (7 ∷ 2 ∷ 0 ∷ 0 ∷ 0 ∷ []) ∷ [])
    × (map (λ es. desk_after (es ++ replicate 5 rolling)) ((pending ++ (order (authority OnSight) ∷ [])) ∷ (pending ++ (order (authority LimitedSupervision) ∷ [])) ∷ supervised ∷ [])
    ≡ (3 ∷ 2 ∷ 1 ∷ 0 ∷ 5 ∷ []) ∷ (4 ∷ 2 ∷ 1 ∷ 0 ∷ 0 ∷ []) ∷ (2 ∷ 1 ∷ 1 ∷ 0 ∷ 0 ∷ []) ∷ [])
    × (raised_by (silent 400 ++ (still ∷ [])) rolling ≡ 0 ∷ 0 ∷ 403 ∷ 0 ∷ [])
    × (answer_to (pending ++ (order (authority OnSight) ∷ replicate 400 rolling) ++ (still ∷ [])) rolling ≡ 0 ∷ 7 ∷ 2 ∷ 2 ∷ 0 ∷ 1 ∷ 1 ∷ [])
    × (map (λ es. line_number (ran es).line) (after_trip ∷ (still ∷ press 7 ∷ record' ∷ press 2 ∷ replicate 51 still) ∷ (text' 9 ∷ replicate 50 still) ∷ (text' 9 ∷ replicate 51 still) ∷ []) ≡ 0 ∷ 0 ∷ 0 ∷ 1 ∷ [])
    × (map (λ es. line_number (ran es).line) ((started ++ (order (level 2) ∷ replicate 51 still)) ∷ silent 402 ∷ (silent 400 ++ (still ∷ [])) ∷ tripped ∷ []) ≡ 1 ∷ 1 ∷ 0 ∷ 2 ∷ [])
    × (map (λ es. request_numbers (first_of (ran es).waiting)) ((text' 9 ∷ still ∷ text' 4 ∷ []) ∷ (text' 9 ∷ still ∷ rolling ∷ []) ∷ []) ≡ (4 ∷ 9 ∷ 0 ∷ 1 ∷ []) ∷ (4 ∷ 9 ∷ 0 ∷ 1 ∷ []) ∷ [])
    × (answer_to [] still ≡ 0 ∷ 0 ∷ 0 ∷ 0 ∷ 484 ∷ 0 ∷ 0 ∷ []) × (request_numbers (replied (text' 9 ∷ []) (text' 4)).first ≡ 4 ∷ 4 ∷ 0 ∷ 1 ∷ [])
