-- `==` on calls decides whether they say the same, and on answers whether they are equal.
use Rattle.std.proofs.Common.{◌≡◌, Bool, true, false, not, ◌&&◌, ◌==◌, Some, None, Option, Decides, sym, refl, ap, ◌∙◌, rules}
use Rattle.std.specs.Option.{option_eq}
use Rattle.std.specs.Cmp.{booleans_Decides}
use mathlib.Core.Bool.{beq}
use denote.Enum.Declared.{Declared}
use denote.Enum.Bare.{Bare, sameb, same_true, true_same}
use Rattle.telegram.specs.contracts.modes.Mode.{the_type as modes}
use Rattle.train_end.specs.contracts.brake_line.BrakeLine.{the_type as lines}
use Rattle.driver_desk.specs.contracts.level.Level.{the_type as levels}
use Rattle.driver_desk.specs.contracts.refusal.Refusal.{the_type as refusals}
use Rattle.driver_desk.specs.contracts.request.Class.{the_type as classes}
use Rattle.driver_desk.specs.declared.request.Request.{Request}
use Rattle.std.proofs.lemmas.Bool.{true≢false, false≢true}
use Rattle.std.proofs.lemmas.Bool.Decides.{Decides-eqb, Decides-and, Decides-like}
use Rattle.cab_unit.specs.declared.call.Call.{Call}
use Rattle.cab_unit.specs.Events.{said}
use Rattle.cab_unit.specs.contracts.call.CallPartialEq.TheImpl.{eq-value as call_eq}
use Rattle.driver_desk.specs.declared.answer.Answer.{Answer}

-- what `!=` says where `==` decides
pub ne_true : {P : Type 0} (r b : Bool) → r ≡ not b → Decides b P → r ≡ true → P → ⊥
ne_true r true e d h p = false≢true (sym e ∙ h)
ne_true r false e d h p = false≢true (d.1 p)

pub ne_false : {P : Type 0} (r b : Bool) → r ≡ not b → Decides b P → r ≡ false → P
ne_false r true e d h = d.0 refl
ne_false r false e d h = absurd (true≢false (sym e ∙ h))

pub call_decides : (c d : Call) → Decides (call_eq.it c d) (said c ≡ said d)
call_decides c d = search rules

-- at an enum with no fields
bare_decides : (D : Declared) → Bare D.parts → (a b : D.D) → Decides (sameb D a b) (a ≡ b)
bare_decides D bare a b = (same_true D bare a b, true_same D a b)

-- at an option of what is decided
pub option_decides : {X : Type 0} (E : X → X → Bool) → ((x y : X) → Decides (E x y) (x ≡ y)) → (x y : Option X) → Decides (option_eq E x y) (x ≡ y)
option_decides E each None None = (λ _. refl, λ _. refl)
option_decides E each None (Some y) = (λ h. absurd (false≢true h), λ e. cc)
option_decides E each (Some x) None = (λ h. absurd (false≢true h), λ e. cc)
option_decides E each (Some x) (Some y) = (λ h. ap Some ((each x y).0 h), λ e. (each x y).1 (cc))

-- requests field by field, and answers field by field
abbrev same_request : Request → Request → Bool
same_request r s = sameb classes r.class s.class && ((r.number == s.number) && ((r.raised == s.raised) && beq r.timed s.timed))

request_decides : (r s : Request) → Decides (same_request r s) (r ≡ s)
request_decides r s =
    Decides-like (same_request r s)
    (λ p i. record { class = p.0 i; number = p.1.0 i; raised = p.1.1.0 i; timed = p.1.1.1 i })
    (λ e. (λ i. (e i).class, (λ i. (e i).number, (λ i. (e i).raised, λ i. (e i).timed))))
    (Decides-and _ _ (bare_decides classes tt _ _) (Decides-and _ _ (Decides-eqb _ _) (Decides-and _ _ (Decides-eqb _ _) (booleans_Decides _ _))))

abbrev pub same_answer : Answer → Answer → Bool
same_answer a b =
    option_eq (sameb refusals) a.outcome b.outcome
    && (sameb modes a.mode b.mode
    && (sameb levels a.level b.level
    && (sameb lines a.line b.line
    && ((a.buttons == b.buttons)
    && ((a.waiting == b.waiting)
    && (option_eq same_request a.first b.first
    && (option_eq same_request a.raised b.raised
    && (option_eq same_request a.acknowledged b.acknowledged
    && (a.withdrawn == b.withdrawn)))))))))

pub answers_decide : (a b : Answer) → Decides (same_answer a b) (a ≡ b)
answers_decide a b =
    Decides-like (same_answer a b)
    (λ p i.
    record {
      outcome = p.0 i;
      mode = p.1.0 i;
      level = p.1.1.0 i;
      line = p.1.1.1.0 i;
      buttons = p.1.1.1.1.0 i;
      waiting = p.1.1.1.1.1.0 i;
      first = p.1.1.1.1.1.1.0 i;
      raised = p.1.1.1.1.1.1.1.0 i;
      acknowledged = p.1.1.1.1.1.1.1.1.0 i;
      withdrawn = p.1.1.1.1.1.1.1.1.1 i;
    })
    (λ e. (λ i. (e i).outcome, (λ i. (e i).mode, (λ i. (e i).level, (λ i. (e i).line, (λ i. (e i).buttons, (λ i. (e i).waiting, (λ i. (e i).first, (λ i. (e i).raised, (λ i. (e i).acknowledged, λ i. (e i).withdrawn))))))))))
    (Decides-and _ _ (option_decides (sameb refusals) (bare_decides refusals tt) _ _)
    (Decides-and _ _ (bare_decides modes tt _ _)
    (Decides-and _ _ (bare_decides levels tt _ _)
    (Decides-and _ _ (bare_decides lines tt _ _)
    (Decides-and _ _ (Decides-eqb _ _)
    (Decides-and _ _ (Decides-eqb _ _)
    (Decides-and _ _ (option_decides same_request request_decides _ _)
    (Decides-and _ _ (option_decides same_request request_decides _ _)
    (Decides-and _ _ (option_decides same_request request_decides _ _) (Decides-eqb _ _))))))))))
