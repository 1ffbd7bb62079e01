-- What a text asks of the driver, for every number, all words and every state that it comes in.
use Rattle.std.specs.Prelude.{◌≡◌, ℕ, true, false, List, Some, None, Option}
use Rattle.telegram.specs.Format.{OrderValue.text}
use Rattle.cab_unit.specs.Events.{Event.order}
use Rattle.cab_unit.specs.Refusing.{failed}
use Rattle.cab_unit.specs.State.{State}
use Rattle.cab_unit.specs.Steps.{next, reply}
use Rattle.driver_desk.specs.declared.request.Class.TheVariants as class

-- a text that is only shown is accepted, raises and withdraws nothing, and leaves what waits
abbrev pub ShownAsksNothing : Type 0
ShownAsksNothing = (reads : List ℕ → Option ℕ) (n : ℕ) (t : List ℕ) (s : State) → failed s ≡ false →
    ((reply reads (order (text n false t)) s).outcome ≡ None)
    × ((reply reads (order (text n false t)) s).raised ≡ None)
    × ((reply reads (order (text n false t)) s).withdrawn ≡ 0)
    × ((next reads (order (text n false t)) s).waiting ≡ s.waiting)

-- a text that wants an acknowledgement, where it is accepted, raises its own timed request
abbrev pub WantedAsks : Type 0
WantedAsks = (reads : List ℕ → Option ℕ) (n : ℕ) (t : List ℕ) (s : State) → (reply reads (order (text n true t)) s).outcome ≡ None →
    (reply reads (order (text n true t)) s).raised ≡ Some (record { class = class.Text; number = n; raised = s.cycle; timed = true })

abbrev pub TextsAsk : Type 0
TextsAsk = ShownAsksNothing × WantedAsks
