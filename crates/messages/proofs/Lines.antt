-- The order of the lines, and lines by their numbers.
use Rattle.std.proofs.Common.{◌≡◌, ◌==◌, ℕ, zero, suc, ◌≤◌, Bool, true, false, not, ltb, List, [], ◌∷◌, length, take, filter, refl, ap, inl, inr, arith}
use Rattle.std.specs.List.{AllByRecursion}
use Rattle.std.proofs.ByRecursion.{All-weaker, All-take, all_kept_by, kept_by_passes}
use Rattle.std.proofs.lemmas.Bool.{cases_Bool, cond_both, ltb-true}
use Rattle.std.proofs.lemmas.Bool.Decides.{nat_tests}
use Rattle.std.proofs.lemmas.List.{length-take}
use Rattle.cab_unit.specs.Facts.{Rising}
use Rattle.driver_desk.specs.Sorting.{put}
use Rattle.cab_unit.proofs.Places.{Told, AllTold}
use Rattle.cab_unit.proofs.Sorted.{Order, all_put, length-put, rising_kept, rising_put}
use Rattle.messages.specs.Shown.{ShownLine, shown_before, without, making_room}
use Rattle.messages.specs.Standing.{LinesDiffer}

-- not both ways
one_way : (a b : ShownLine) → shown_before a b ≡ true → shown_before b a ≡ false
one_way a b e = grind (arith, nat_tests)

-- not before is carried on
follows : (a b c : ShownLine) → shown_before a b ≡ false → shown_before b c ≡ false → shown_before a c ≡ false
follows a b c e f = grind (arith, nat_tests)

-- `shown_before` orders lines
pub shown-order : Order shown_before
shown-order = record { one_way = one_way; follows = follows }

-- of two lines with different numbers, one is before the other
pub told-apart : (a b : ShownLine) → (a.number == b.number) ≡ false → Told shown_before a b
told-apart a b h = grind (arith, nat_tests)

-- none of the lines has the number
abbrev pub Fresh : ℕ → List ShownLine → Type 0
Fresh n l = AllByRecursion (λ m. (n == m.number) ≡ false) l

pub number_sym : (n m : ℕ) → (n == m) ≡ false → (m == n) ≡ false
number_sym n m h = grind (arith, nat_tests)

-- lines whose numbers differ are told from each other
pub differ_told : (l : List ShownLine) → LinesDiffer l → AllTold shown_before l
differ_told [] h = tt
differ_told (x ∷ xs) h = (All-weaker (λ m. (x.number == m.number) ≡ false) (Told shown_before x) (told-apart x) xs h.0, differ_told xs h.1)

-- without its number, none has it
pub fresh_without : (n : ℕ) (l : List ShownLine) → Fresh n (without n l)
fresh_without n l =
    All-weaker (λ m. not (m.number == n) ≡ true) (λ m. (n == m.number) ≡ false) (λ m h. grind (arith, nat_tests)) (without n l) (kept_by_passes (λ m. not (m.number == n)) l)

-- where none has the number, all stay
pub without-fresh : (n : ℕ) (l : List ShownLine) → Fresh n l → without n l ≡ l
without-fresh n [] h = refl
without-fresh n (x ∷ xs) h = let e = number_sym n x.number h.0 in simp e (ap (λ t. x ∷ t) (without-fresh n xs h.1))

-- the first ones of a list in order
rising_take : (n : ℕ) (l : List ShownLine) → Rising shown_before l → Rising shown_before (take n l)
rising_take zero l h = tt
rising_take (suc n) [] h = tt
rising_take (suc n) (x ∷ xs) h = (All-take (λ y. shown_before y x ≡ false) n xs h.0, rising_take n xs h.1)

-- a filter of lines whose numbers differ
pub differ_filtered : (p : ShownLine → Bool) (l : List ShownLine) → LinesDiffer l → LinesDiffer (filter p l)
differ_filtered p [] h = tt
differ_filtered p (x ∷ xs) h = elim (cases_Bool (p x)) [
  | inl e ↦ simp e (all_kept_by p (λ m. (x.number == m.number) ≡ false) xs h.0, differ_filtered p xs h.1)
  | inr e ↦ simp e (differ_filtered p xs h.1)
]

-- the first ones of them
differ_take : (n : ℕ) (l : List ShownLine) → LinesDiffer l → LinesDiffer (take n l)
differ_take zero l h = tt
differ_take (suc n) [] h = tt
differ_take (suc n) (x ∷ xs) h = (All-take (λ m. (x.number == m.number) ≡ false) n xs h.0, differ_take n xs h.1)

-- one of a new number among them
pub differ_put : (x : ShownLine) (l : List ShownLine) → Fresh x.number l → LinesDiffer l → LinesDiffer (put shown_before x l)
differ_put x [] f h = (tt, tt)
differ_put x (y ∷ ys) f h = elim (cases_Bool (shown_before y x)) [
  | inl e ↦ simp e (all_put shown_before (λ m. (y.number == m.number) ≡ false) x ys (number_sym x.number y.number f.0) h.0, differ_put x ys f.1 h.1)
  | inr e ↦ simp e (f, h)
]

-- a fact of the lines that holds where none stands, and that the calls keep
pub record Kept (P : List ShownLine → Type 0) : Type 0 where
  pub none : P []
  pub filtered : (p : ShownLine → Bool) (l : List ShownLine) → P l → P (filter p l)
  pub came : (x : ShownLine) (l : List ShownLine) → Fresh x.number l → P l → P (put shown_before x (making_room l))

-- where room is made, what holds of the lines and of the first ones still holds
made : (P : List ShownLine → Type 0) (l : List ShownLine) → P l → P (take 11 l) → P (making_room l)
made P l h k = cond_both (ltb (length l) 12) l (take 11 l) P (λ _. h) (λ _. k)

-- the lines stay in order
pub rising-kept : Kept (Rising shown_before)
rising-kept = record {
  none = tt;
  filtered = rising_kept shown_before;
  came = λ x l f h. rising_put shown-order x (making_room l) (made (Rising shown_before) l h (rising_take 11 l h));
}

-- no two have one number
pub differ-kept : Kept LinesDiffer
differ-kept = record {
  none = tt;
  filtered = differ_filtered;
  came = λ x l f h. differ_put x (making_room l) (made (Fresh x.number) l f (All-take (λ m. (x.number == m.number) ≡ false) 11 l f)) (made LinesDiffer l h (differ_take 11 l h));
}

abbrev pub Twelve : List ShownLine → Type 0
Twelve l = length l ≤ 12

twelve_filtered : (p : ShownLine → Bool) (l : List ShownLine) → length (filter p l) ≤ length l
twelve_filtered p [] = omega arith
twelve_filtered p (x ∷ xs) = elim (cases_Bool (p x)) [
  | inl e ↦ simp e (omega (arith, twelve_filtered p xs))
  | inr e ↦ simp e (omega (arith, twelve_filtered p xs))
]

eleven : (l : List ShownLine) → length (making_room l) ≤ 11
eleven l = cond_both (ltb (length l) 12) l (take 11 l) (λ k. length k ≤ 11) (λ h. omega (arith, ltb-true _ _ h)) (λ _. omega (arith, length-take 11 l))

-- and twelve stand at most
pub twelve-kept : Kept Twelve
twelve-kept = record {
  none = omega arith;
  filtered = λ p l h. omega (arith, twelve_filtered p l);
  came = λ x l f h. omega (arith, length-put shown_before x (making_room l), eleven l);
}
