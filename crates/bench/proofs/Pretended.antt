-- The laws refuse what only pretends.
use Rattle.std.proofs.Common.{◌≡◌, ℕ, ◌+◌, ◌≤◌, List, [], ◌∷◌, length, Some, None, Option, sym, refl, ap, arith}
use Rattle.std.proofs.lemmas.Bool.{true≢false}
use Rattle.telegram.specs.Modes.{mode_code}
use Rattle.train_end.specs.Line.{line_number}
use Rattle.driver_desk.specs.Numbers.{level_number}
use Rattle.driver_desk.specs.declared.request.Class.TheVariants as class
use Rattle.driver_desk.specs.declared.answer.Answer.{Answer}
use Rattle.driver_desk.specs.declared.request.Request.{Request}
use Rattle.bench.specs.Pretences.{NotByTheBook, NotConfirmedOnce, NotEqualEnds}

apart : (n : ℕ) → ◌≡◌ {A = ℕ} 0 (1 + n) → ⊥
apart n h = omega arith

-- the cycle of the first, and whether there is one
first_raised : List Request → ℕ
first_raised [] = 0
first_raised (r ∷ rs) = r.raised

asked : Option Request → ℕ
asked None = 0
asked (Some r) = 1

pub not_by_the_book : NotByTheBook
unfolding first_raised asked
not_by_the_book = (
  λ h. apart 0 (ap length h.0),
  λ h. apart 0 (sym (h.2 class.Text 7)),
  λ h. apart 0 (sym (ap first_raised h.0)),
  λ h. let z : 2 ≤ 1 = h.1 class.Text 7 in omega arith,
  λ h. apart 0 (sym h.2),
  λ h. true≢false (sym h.0),
  λ h. true≢false (sym h.0),
  λ h. true≢false (sym h.0),
  λ h. true≢false (sym h.1),
  λ h. apart 0 (sym h.2),
  λ h. apart 0 (sym (ap asked h.0)),
  λ h. apart 0 (sym (ap asked h.1)),
)

pub not-confirmed-once : NotConfirmedOnce
not-confirmed-once = (
  λ h. apart 0 (h refl (omega arith) refl),
  λ h. apart 0 (h refl (omega arith) refl),
  λ h. apart 0 (h refl (omega arith) refl),
  λ h. apart 0 (h refl (omega arith) refl),
  λ h. let z : ◌≡◌ {A = ℕ} 2 1 = h refl (omega arith) refl in omega arith,
)

pub not_equal_ends : NotEqualEnds
not_equal_ends = (
  λ h. apart 4 (ap mode_code h.ends.mode),
  λ h. apart 0 (ap level_number h.ends.level),
  λ h. apart 0 (ap length h.ends.waiting),
  λ h. apart 0 (ap line_number h.ends.line),
  λ p v h. apart 0 (ap (λ (a : Answer). a.withdrawn) h.answers.0),
  λ p q h. apart 0 (ap (λ (a : Answer). a.withdrawn) h.answers.0),
)
