-- Pairs of digits, as the crate of hexadecimal texts reads them.
use Rattle.std.proofs.Common.{◌≡◌, ℕ, ◌+◌, ◌*◌, ◌%◌, inl, inr, true, false, List, [], ◌∷◌, length, Some, None, Option, Ok, Err, Result, refl, sym, ap, ◌∙◌, arith}
use Rattle.std.specs.Option.{is_some}
use Rattle.std.specs.Result.{result_ok}
use Rattle.std.specs.List.{list_all}
use Rattle.std.proofs.lemmas.Bool.{cases_Bool, cases_eq, false≢true}
use Rattle.std.proofs.lemmas.List.Sums.{AllPass-from_list_all, list_all-from_AllPass}
use Rattle.hex.specs.Hex.{decode_of, decode_pairs, digit_or_error, hex_digit_value, is_hex_digit, pair_value, value_at, ◌>>=◌}
use Rattle.hex.specs.declared.error.FromHexError.{FromHexError}
use Rattle.hex.proofs.HexLemmas.{decode_of-digits, decode_of-even, decode_of-odd, decode_of-ok}
use Rattle.call_list.specs.Hex.{digit_of, join_digits, byte_of, before, pairs}

same_digit : (b : ℕ) → hex_digit_value b ≡ digit_of b
same_digit b = grind (arith)

read_digit : (c i : ℕ) (v : Option ℕ) → result_ok (digit_or_error c i v) ≡ v
read_digit c i (Some v) = refl
read_digit c i None = refl

joined : (x y : Result ℕ FromHexError) → result_ok (x >>= (λ h. y >>= (λ l. Ok (h * 16 + l)))) ≡ join_digits (result_ok x) (result_ok y)
joined (Ok x) (Ok y) = refl
joined (Ok x) (Err e) = refl
joined (Err e) y = refl

put_before : (x : Result ℕ FromHexError) (r : Result (List ℕ) FromHexError) → result_ok (x >>= (λ b. r >>= (λ bs. Ok (b ∷ bs)))) ≡ before (result_ok x) (result_ok r)
put_before (Ok b) (Ok bs) = refl
put_before (Ok b) (Err e) = refl
put_before (Err e) r = refl

same_byte : (a b i : ℕ) → result_ok (pair_value a b i) ≡ byte_of a b
same_byte a b i =
    joined (value_at a i) (value_at b (i + 1))
    ∙ ap (λ x. join_digits x (result_ok (value_at b (i + 1)))) (read_digit a i (hex_digit_value a) ∙ same_digit a)
    ∙ ap (join_digits (digit_of a)) (read_digit b (i + 1) (hex_digit_value b) ∙ same_digit b)

same_pairs : (i : ℕ) (s : List ℕ) → result_ok (decode_pairs i s) ≡ pairs s
unfolding decode_pairs
same_pairs i [] = refl
same_pairs i (a ∷ []) = refl
same_pairs i (a ∷ b ∷ rest) =
    put_before (pair_value a b i) (decode_pairs (i + 2) rest)
    ∙ ap (λ x. before x (result_ok (decode_pairs (i + 2) rest))) (same_byte a b i)
    ∙ ap (before (byte_of a b)) (same_pairs (i + 2) rest)

before_none : (b : Option ℕ) → before b None ≡ None
before_none (Some b) = refl
before_none None = refl

odd_pairs : (s : List ℕ) → length s % 2 ≡ 1 → pairs s ≡ None
odd_pairs [] odd = absurd (omega arith)
odd_pairs (a ∷ []) odd = refl
odd_pairs (a ∷ b ∷ rest) odd = ap (before (byte_of a b)) (odd_pairs rest (omega arith)) ∙ before_none (byte_of a b)

same_bytes : (s : List ℕ) → result_ok (decode_of s) ≡ pairs s
same_bytes s =
    elim (cases_eq (length s % 2) 1) [
      | inl odd ↦ ap result_ok (decode_of-odd s odd) ∙ sym (odd_pairs s odd)
      | inr even ↦ ap result_ok (decode_of-even s (omega arith)) ∙ same_pairs 0 s
    ]

-- a text that the crate decodes has those bytes as pairs
pub decoded : (s bytes : List ℕ) → decode_of s ≡ Ok bytes → pairs s ≡ Some bytes
decoded s bytes h = sym (same_bytes s) ∙ ap result_ok h

some_ok : (r : Result (List ℕ) FromHexError) → is_some (result_ok r) ≡ true → (bytes : List ℕ) × (r ≡ Ok bytes)
some_ok (Ok bytes) h = (bytes, refl)
some_ok (Err e) h = absurd (false≢true h)

module _ (s : List ℕ) where
  -- an even number of bytes is pairs exactly where each is a digit
  pub even_pairs : length s % 2 ≡ 0 → is_some (pairs s) ≡ list_all is_hex_digit s
  even_pairs even = elim (cases_Bool (list_all is_hex_digit s)) [
    | inl digits ↦
        let d = decode_of-digits s even (AllPass-from_list_all is_hex_digit s digits) in ap is_some (decoded s d.0 d.1) ∙ sym digits
    | inr other ↦ elim (cases_Bool (is_some (pairs s))) [
      | inl some ↦
          let r = some_ok (decode_of s) (ap is_some (same_bytes s) ∙ some) in
          let digits = list_all-from_AllPass is_hex_digit s (decode_of-ok s r.0 r.1).1 in absurd (false≢true (sym other ∙ digits))
      | inr none ↦ none ∙ sym other
    ]
  ]

  -- an odd number is none
  pub no_odd_pairs : length s % 2 ≡ 1 → is_some (pairs s) ≡ false
  no_odd_pairs odd = ap is_some (odd_pairs s odd)
