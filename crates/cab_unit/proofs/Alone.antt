-- Where none of a class waits, and where one does.
use Rattle.std.proofs.Common.{◌≡◌, ℕ, ◌≤◌, Bool, true, false, cond, eqb, List, [], ◌∷◌, filter, sym, ap, ◌∙◌, inl, inr, arith}
use Rattle.std.proofs.lemmas.Bool.{cases_Bool, cond_both, true≢false}
use Rattle.telegram.specs.declared.modes.Mode.{Mode}
use Rattle.cab_unit.specs.Moves.{entered}
use Rattle.driver_desk.specs.Numbers.{class_number, is_mode}
use Rattle.cab_unit.specs.Places.{Single}
use Rattle.driver_desk.specs.Requests.{is_for, not_of_class, waits, number_of}
use Rattle.driver_desk.specs.Sorting.{some, tally}
use Rattle.cab_unit.specs.State.{State}
use Rattle.driver_desk.specs.declared.request.Class.{Class}
use Rattle.driver_desk.specs.declared.request.Class.TheVariants as class
use Rattle.driver_desk.specs.declared.request.Request.{Request}
use Rattle.cab_unit.proofs.Queue.{number_other, number_withdrawn}

-- after a change of mode no mode request waits
pub entered-unasked : (m : Mode) (s t : State) → t ≡ entered m s → is_mode s.desk.mode m ≡ false → number_of class.Mode t.waiting ≡ 0
entered-unasked m s t e h =
    ap (λ u. number_of class.Mode u.waiting) e
    ∙ ap (λ b. number_of class.Mode (cond b s.waiting (filter (not_of_class class.Mode) s.waiting))) h ∙ number_withdrawn class.Mode s.waiting

-- after a class is withdrawn none of it waits
pub withdrawn-none : (c : Class) (l k : List Request) → k ≡ filter (not_of_class c) l → number_of c k ≡ 0
withdrawn-none c l k e = ap (number_of c) e ∙ number_withdrawn c l

-- a change of mode leaves as many of another class
pub entered_alone : (c : Class) (m : Mode) (s t : State) → t ≡ entered m s → eqb (class_number c) 1 ≡ false → number_of c s.waiting ≡ 0 → number_of c t.waiting ≡ 0
entered_alone c m s t e k h =
    ap (λ u. number_of c u.waiting) e
    ∙ cond_both (is_mode s.desk.mode m) s.waiting (filter (not_of_class class.Mode) s.waiting) (λ l. number_of c l ≡ 0) (λ _. h) (λ _. number_other c class.Mode k s.waiting ∙ h)

some-counted : (p : Request → Bool) (l : List Request) → some p l ≡ true → 1 ≤ tally p l
some-counted p [] h = absurd (true≢false (sym h))
some-counted p (x ∷ xs) h = elim (cases_Bool (p x)) [
  | inl e ↦ simp e (omega arith)
  | inr e ↦ let k = some-counted p xs (simp e at h) in simp e (omega arith)
]

-- where one waits at most, and one does, there is one
pub one-waits : (c : Class) (n : ℕ) (l : List Request) → Single l → waits c n l ≡ true → tally (is_for c n) l ≡ 1
one-waits c n l single h = omega (arith, single c n, some-counted (is_for c n) l h)
