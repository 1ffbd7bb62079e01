-- The place of the first byte that passes a test, or the length where none does.
use Rattle.std.proofs.Common.{◌≡◌, ℕ, ◌≤◌, Bool, not, ltb, List, [], ◌∷◌, length, inl, inr, arith}
use Rattle.std.specs.Option.{unwrap_or}
use Rattle.std.specs.List.{prefix_len, position, position_or_len}
use Rattle.std.proofs.lemmas.Bool.{cases_Bool}
use Rattle.std.proofs.lemmas.Bool.Decides.{nat_tests}

prefix_within : (test : ℕ → Bool) (text : List ℕ) → prefix_len test text ≤ length text
prefix_within test [] = omega arith
prefix_within test (b ∷ text) =
    let h = prefix_within test text in elim (cases_Bool (test b)) [
      | inl e ↦ simp e (omega arith)
      | inr e ↦ simp e (omega arith)
    ]

pub place_within : (test : ℕ → Bool) (text : List ℕ) → position_or_len test text ≤ length text
place_within test text = prefix_within (λ b. not (test b)) text

pub place_or_len : (test : ℕ → Bool) (text : List ℕ) → unwrap_or (position test text) (length text) ≡ position_or_len test text
place_or_len test text =
    let h = place_within test text in elim (cases_Bool (ltb (position_or_len test text) (length text))) [
      | inl e ↦ simp e
      | inr e ↦ simp e (grind (arith, nat_tests))
    ]
