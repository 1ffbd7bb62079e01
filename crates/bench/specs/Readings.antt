-- Three mistakes that a reader of the rules could make, ruled out of every state that calls can reach.
use Rattle.std.specs.Prelude.{◌≡◌, ℕ, true, false, List, Some, None, Option}
use Rattle.std.specs.List.{AllByRecursion}
use Rattle.telegram.specs.Format.{OrderValue.authority}
use Rattle.telegram.specs.declared.modes.Mode.TheVariants.{OnSight, SystemFailure}
use Rattle.cab_unit.specs.Events.{Event, Event.cycle, Event.order, Event.press}
use Rattle.driver_desk.specs.Numbers.{is_mode}
use Rattle.driver_desk.specs.Requests.{before, first_of}
use Rattle.cab_unit.specs.State.{State, moving}
use Rattle.cab_unit.specs.Steps.{next, reply}
use Rattle.driver_desk.specs.declared.request.Request.{Request}
use Rattle.bench.specs.Runs.{final_state}

-- a second On Sight authority gives no more time: what waits is as before, nothing is raised or withdrawn
abbrev pub RepeatsNothing : (List ℕ → Option ℕ) → State → Type 0
RepeatsNothing reads s = is_mode s.desk.mode OnSight ≡ true →
    ((next reads (order (authority OnSight)) s).waiting ≡ s.waiting)
    × ((reply reads (order (authority OnSight)) s).raised ≡ None)
    × ((reply reads (order (authority OnSight)) s).withdrawn ≡ 0)

-- silence alone does not end the leave of a train under way, unless the unit fails
abbrev pub MovingKeepsAuthority : (List ℕ → Option ℕ) → State → Type 0
MovingKeepsAuthority reads s = (block : List ℕ) → moving (reads block) ≡ true → s.desk.authority ≡ true →
    is_mode (next reads (cycle block) s).desk.mode SystemFailure ≡ false → (next reads (cycle block) s).desk.authority ≡ true

-- nothing that waits is passed over by Acknowledge
abbrev pub EndsTheFirst : (List ℕ → Option ℕ) → State → Type 0
EndsTheFirst reads s = (r : Request) → (reply reads (press 1) s).acknowledged ≡ Some r →
    (first_of s.waiting ≡ Some r) × AllByRecursion (λ x. before x r ≡ false) s.waiting

abbrev pub RuledOut : Type 0
RuledOut = (reads : List ℕ → Option ℕ) (speed : Option ℕ) (es : List Event) →
    RepeatsNothing reads (final_state reads speed es) × MovingKeepsAuthority reads (final_state reads speed es) × EndsTheFirst reads (final_state reads speed es)
