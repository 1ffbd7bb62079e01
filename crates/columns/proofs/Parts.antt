-- Answers part by part.
use Rattle.std.proofs.Common.{◌≡◌, ◌<◌, lit<, ap}
use Rattle.driver_desk.specs.declared.answer.Answer.{Answer}
use Rattle.columns.specs.Difference.{column_place, SamePart}
use Rattle.columns.specs.declared.names.Column.{Column}
use Rattle.columns.specs.declared.names.Column.TheVariants.{Outcome, Mode, Level, Brake, Buttons, Waiting, First, Raised, Acked, Withdrawn}

-- answers that are the same in every column are equal
pub all_same : (a b : Answer) → ((d : Column) → column_place d < 10 → SamePart d a b) → a ≡ b
all_same a b h i = record {
  outcome = h Outcome (lit< tt) i;
  mode = h Mode (lit< tt) i;
  level = h Level (lit< tt) i;
  line = h Brake (lit< tt) i;
  buttons = h Buttons (lit< tt) i;
  waiting = h Waiting (lit< tt) i;
  first = h First (lit< tt) i;
  raised = h Raised (lit< tt) i;
  acknowledged = h Acked (lit< tt) i;
  withdrawn = h Withdrawn (lit< tt) i;
}

-- equal answers are the same in every column
pub same_each : (a b : Answer) (c : Column) → a ≡ b → SamePart c a b
same_each a b Outcome e = ap (λ (x : Answer). x.outcome) e
same_each a b Mode e = ap (λ (x : Answer). x.mode) e
same_each a b Level e = ap (λ (x : Answer). x.level) e
same_each a b Brake e = ap (λ (x : Answer). x.line) e
same_each a b Buttons e = ap (λ (x : Answer). x.buttons) e
same_each a b Waiting e = ap (λ (x : Answer). x.waiting) e
same_each a b First e = ap (λ (x : Answer). x.first) e
same_each a b Raised e = ap (λ (x : Answer). x.raised) e
same_each a b Acked e = ap (λ (x : Answer). x.acknowledged) e
same_each a b Withdrawn e = ap (λ (x : Answer). x.withdrawn) e
