-- Bytes written as hexadecimal digits.
use Rattle.std.specs.Prelude.{ℕ, ◌+◌, ◌-◌, ◌*◌, cond, ◌&&◌, List, [], ◌∷◌, Some, None, Option, Result, nat_le}
use Rattle.std.specs.Option.{option_map, ok_or}
use Rattle.std.specs.Str.{bytes_eq}
use Rattle.call_list.specs.declared.entry.Wrong.{Wrong}
use Rattle.call_list.specs.declared.entry.Wrong.TheVariants.{NotHexadecimal}

-- 0 to 9, A to F and a to f
abbrev pub digit_of : ℕ → Option ℕ
digit_of b =
    cond (nat_le 48 b && nat_le b 57) (Some (b - 48))
    (cond (nat_le 65 b && nat_le b 70) (Some (b - 55))
    (cond (nat_le 97 b && nat_le b 102) (Some (b - 87)) None))

-- two digits, the higher first
abbrev pub join_digits : Option ℕ → Option ℕ → Option ℕ
join_digits None low = None
join_digits (Some high) None = None
join_digits (Some high) (Some low) = Some (high * 16 + low)

abbrev pub byte_of : ℕ → ℕ → Option ℕ
byte_of a b = join_digits (digit_of a) (digit_of b)

abbrev pub before : Option ℕ → Option (List ℕ) → Option (List ℕ)
before None bytes = None
before (Some b) bytes = option_map (λ bs. b ∷ bs) bytes

-- an even number of digits, two to a byte
abbrev pub pairs : List ℕ → Option (List ℕ)
pairs [] = Some []
pairs (a ∷ []) = None
pairs (a ∷ b ∷ rest) = before (byte_of a b) (pairs rest)

-- the bytes that a word names: a lone hyphen is no bytes
abbrev pub hex_bytes : List ℕ → Option (List ℕ)
hex_bytes word = cond (bytes_eq word (45 ∷ [])) (Some []) (pairs word)

abbrev pub hex_wanted : List ℕ → Result (List ℕ) Wrong
hex_wanted word = ok_or (hex_bytes word) NotHexadecimal
