-- Calls that are the same up to the block of a cycle.
use Rattle.std.proofs.Common.{◌≡◌, false, sym, refl, ap, ◌∙◌}
use Rattle.std.proofs.lemmas.Bool.{true≢false}
use Rattle.cab_unit.specs.Events.{Event, Event.cycle, Event.order, Event.press, Event.take}
use Rattle.driver_desk.specs.declared.answer.Answer.{Answer}
use Rattle.messages.specs.Shown.{Display, after_call}
use Rattle.cab_unit.specs.Events.{is_cycle, unblocked}

-- without its block a call is a cycle where it was one
cycle-unblocked : (e : Event) → is_cycle (unblocked e) ≡ is_cycle e
cycle-unblocked (cycle block) = refl
cycle-unblocked (order o) = refl
cycle-unblocked (press n) = refl
cycle-unblocked (take t) = refl

-- a call that is no cycle has no block
no_block : (e : Event) → is_cycle e ≡ false → unblocked e ≡ e
no_block (cycle block) h = absurd (true≢false h)
no_block (order o) h = refl
no_block (press n) h = refl
no_block (take t) h = refl

-- calls that are the same up to the block are both cycles, or are equal
pub same-cycles : (e f : Event) → unblocked e ≡ unblocked f → is_cycle e ≡ is_cycle f
same-cycles e f h = sym (cycle-unblocked e) ∙ ap is_cycle h ∙ cycle-unblocked f

pub same-call : (e f : Event) → unblocked e ≡ unblocked f → is_cycle e ≡ false → e ≡ f
same-call e f h c = sym (no_block e c) ∙ h ∙ no_block f (sym (same-cycles e f h) ∙ c)

-- calls that are the same up to the block do the same to a window
pub same_behind : (e f : Event) (a : Answer) (d : Display) → unblocked e ≡ unblocked f → after_call e a d ≡ after_call f a d
same_behind e f a d h = behind e a d ∙ ap (λ x. after_call x a d) h ∙ sym (behind f a d)
  where
    behind : (x : Event) (b : Answer) (c : Display) → after_call x b c ≡ after_call (unblocked x) b c
    behind (cycle block) b c = refl
    behind (order o) b c = refl
    behind (press n) b c = refl
    behind (take t) b c = refl
