-- Digits read one by one, and a number as it is commonly written.
use Rattle.std.proofs.Common.{◌≡◌, ℕ, ◌+◌, ◌-◌, ◌*◌, ◌/◌, ◌%◌, ◌^◌, ◌<◌, ◌≤◌, true, false, ◌&&◌, leb, List, [], ◌∷◌, ◌++◌, Some, None, decimal, Option, sym, refl, ap, ◌∙◌, subst, inl, inr, arith}
use Rattle.std.proofs.lemmas.Fmt.{decimal_by_steps, decimal_nonempty}
use Rattle.std.proofs.lemmas.Bool.{cases_Bool}
use Rattle.std.proofs.lemmas.Bool.Decides.{nat_tests}
use Rattle.call_list.specs.Words.{is_empty}
use Rattle.call_list.specs.Numbers.{is_digit, digits_value, number_of, Within, ReadsWritten}

digits_within : (limit v : ℕ) (word : List ℕ) → v ≤ limit → Within limit (digits_value limit v word)
digits_within limit v [] h = h
digits_within limit v (b ∷ word) h = elim (cases_Bool (is_digit b && leb (v * 10 + (b - 48)) limit)) [
  | inl e ↦ simp e (digits_within limit (v * 10 + (b - 48)) word (grind (arith, nat_tests)))
  | inr e ↦ simp e tt
]

-- a number that is read is at most the limit
pub number_within : (limit : ℕ) (word : List ℕ) (r : Option ℕ) → r ≡ number_of limit word → Within limit r
number_within limit word r e = subst (Within limit) (sym e) (elim (cases_Bool (is_empty word)) [
  | inl f ↦ simp f tt
  | inr f ↦ simp f (digits_within limit 0 word (omega arith))
])

-- one digit more at the end
digits_push : (limit v m d : ℕ) (word : List ℕ) → d < 10 → m * 10 + d ≤ limit → digits_value limit v word ≡ Some m →
    digits_value limit v (word ++ (48 + d) ∷ []) ≡ Some (m * 10 + d)
digits_push limit v m d [] l small h =
    let f : v ≡ m = cc in
    let g : v * 10 + (48 + d - 48) ≡ m * 10 + d = omega arith in
    let e : (is_digit (48 + d) && leb (v * 10 + (48 + d - 48)) limit) ≡ true = grind (arith, nat_tests) in
    simp e (ap Some g)
digits_push limit v m d (b ∷ word) l small h = elim (cases_Bool (is_digit b && leb (v * 10 + (b - 48)) limit)) [
  | inl e ↦ simp e (digits_push limit (v * 10 + (b - 48)) m d word l small (simp e at h))
  | inr e ↦ let z : None ≡ Some m = simp e at h in absurd (let y : ◌≡◌ {A = ℕ} 0 1 = cc in omega arith)
]

digits_written : (limit n : ℕ) → n < 2 ^ 64 → n ≤ limit → digits_value limit 0 (decimal n) ≡ Some n
digits_written limit n l = decimal_by_steps (λ m ds. m ≤ limit → digits_value limit 0 ds ≡ Some m)
    (λ m one small. digits_push limit 0 0 m [] one (omega arith) refl ∙ ap Some (omega arith))
    (λ m ds ten before small. digits_push limit 0 (m / 10) (m % 10) ds (omega arith) (omega arith) (before (omega arith)) ∙ ap Some (omega arith))
    n l

-- a number that is at most the limit is read as it is commonly written
pub number_written : (limit : ℕ) (word : List ℕ) (r : Option ℕ) → limit < 2 ^ 64 → r ≡ number_of limit word → ReadsWritten limit word r
number_written limit word r l is n small e =
    let some : is_empty (decimal n) ≡ false = grind (arith, nat_tests, decimal_nonempty n (omega arith)) in
    is ∙ ap (number_of limit) e ∙ simp some (digits_written limit n (omega arith) small)
