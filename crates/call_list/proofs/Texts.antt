-- A text piece by piece, and the calls kept so far.
use Rattle.std.proofs.Common.{◌≡◌, ℕ, ◌+◌, ◌<◌, ◌≤◌, Bool, true, false, ◌&&◌, ◌||◌, ◌⊎◌, List, [], ◌∷◌, ◌++◌, map, length, get_or, drop, Ok, Err, Some, None, Option, Result, Bor, sym, refl, ap, ◌∙◌, subst, inl, inr, append-nil, arith}
use Rattle.std.proofs.lemmas.Bool.{cases_Bool, or_left}
use Rattle.std.proofs.lemmas.List.{at_drop_more, at_drop_all}
use Rattle.std.proofs.lemmas.List.FromFn.{length-enumerate_from, get_or-enumerate_from}
use Rattle.std.proofs.lemmas.List.Splits.{slice_split-cons_yes, slice_split-cons_no}
use Rattle.std.proofs.lemmas.Iterator.{YieldsList}
use Rattle.std.proofs.lemmas.Iterator.Consumers.{YieldsList-at, YieldsList-from_enumerate, YieldsList-turn, YieldsList-end}
use Rattle.std.proofs.lemmas.Iterator.Splits.{YieldsList-from_slice_split}
use Rattle.std.specs.Fn.{CalledAt}
use Rattle.std.specs.Iterator.{Yields}
use Rattle.std.specs.Iterator.Adapters.{enumerate_source, enumerate_count, enumerate_steps}
use Rattle.std.specs.Slice.Iter.{split_rest, split_done, split_callee, split_steps}
use denote.Param.Members.{Mut}
use Rattle.std.specs.List.{slice_split, onto_first, enumerate_from}
use Rattle.call_list.specs.Words.{is_break}
use Rattle.call_list.specs.Lines.{CallValue, is_call, line_of}
use Rattle.call_list.specs.Lists.{lines_of, ListValue, calls, bad_line, behind, with_line, list_from, list_of, located, is_passed, may_want, Noted, ReadsList, ReadsListOrWantsMemory}
use Rattle.call_list.specs.declared.entry.Wrong.{Wrong}
use Rattle.call_list.specs.declared.listed.Listed.{Listed}
use Rattle.call_list.specs.declared.listed.ListFault.{ListFault}
use Rattle.call_list.specs.declared.listed.ListFault.TheVariants.{Line, NoMemory}

-- one byte more in front of the first piece, where the last piece is empty
onto_last : (b : ℕ) (lines : List (List ℕ)) →
    (onto_first b (lines ++ [] ∷ []) ≡ onto_first b lines) ⊎ (onto_first b (lines ++ [] ∷ []) ≡ onto_first b lines ++ [] ∷ [])
onto_last b [] = inl refl
onto_last b (line ∷ lines) = inr refl

-- the pieces between line breaks are the lines, or these and an empty piece more
pieces : (text : List ℕ) → (slice_split is_break text ≡ lines_of text) ⊎ (slice_split is_break text ≡ lines_of text ++ [] ∷ [])
pieces [] = inr refl
pieces (b ∷ text) = elim (cases_Bool (is_break b)) [
  | inl e ↦
      let f : lines_of (b ∷ text) ≡ [] ∷ lines_of text = simp e in elim (pieces text) [
        | inl h ↦ inl (slice_split-cons_yes is_break b text e ∙ ap (λ ls. [] ∷ ls) h ∙ sym f)
        | inr h ↦ inr (slice_split-cons_yes is_break b text e ∙ ap (λ ls. [] ∷ ls) h ∙ sym (ap (λ ls. ls ++ [] ∷ []) f))
      ]
  | inr e ↦
      let f : lines_of (b ∷ text) ≡ onto_first b (lines_of text) = simp e in elim (pieces text) [
        | inl h ↦ inl (slice_split-cons_no is_break b text e ∙ ap (onto_first b) h ∙ sym f)
        | inr h ↦
            let g = slice_split-cons_no is_break b text e ∙ ap (onto_first b) h in elim (onto_last b (lines_of text)) [
              | inl k ↦ inl (g ∙ k ∙ sym f)
              | inr k ↦ inr (g ∙ k ∙ sym (ap (λ ls. ls ++ [] ∷ []) f))
            ]
      ]
]

-- a blank line behind the last adds nothing
blank_behind : (n : ℕ) (lines : List (List ℕ)) → list_from n (lines ++ [] ∷ []) ≡ list_from n lines
blank_behind n [] = refl
blank_behind n (line ∷ lines) = ap (with_line n (line_of line)) (blank_behind (n + 1) lines)

blank_wants : (lines : List (List ℕ)) → may_want (lines ++ [] ∷ []) ≡ may_want lines
blank_wants [] = refl
blank_wants (line ∷ lines) = ap (λ b. is_call (line_of line) || (is_passed (line_of line) && b)) (blank_wants lines)

pieces_list : (n : ℕ) (text : List ℕ) → list_from n (slice_split is_break text) ≡ list_from n (lines_of text)
pieces_list n text = elim (pieces text) [
  | inl h ↦ ap (list_from n) h
  | inr h ↦ ap (list_from n) h ∙ blank_behind n (lines_of text)
]

pub pieces_want : (text : List ℕ) → may_want (slice_split is_break text) ≡ may_want (lines_of text)
pieces_want text = elim (pieces text) [
  | inl h ↦ ap may_want h
  | inr h ↦ ap may_want h ∙ blank_wants (lines_of text)
]

behind_none : (v : ListValue) → behind [] v ≡ v
behind_none (calls more) = refl
behind_none (bad_line n w) = refl

-- before the first piece nothing is kept
pub list_start : (kept : List Listed) (text : List ℕ) → kept ≡ [] → behind (map located kept) (list_from 1 (slice_split is_break text)) ≡ list_of text
list_start kept text e = ap (λ xs. behind (map located xs) (list_from 1 (slice_split is_break text))) e ∙ behind_none _ ∙ pieces_list 1 text

-- a list of calls is no bad line
abbrev HasCalls : ListValue → Type 0
HasCalls (calls xs) = Unit {0}
HasCalls (bad_line n w) = ⊥

calls_not_bad : (xs : List (ℕ × CallValue)) (n : ℕ) (w : Wrong) → calls xs ≡ bad_line n w → ⊥
calls_not_bad xs n w e = subst HasCalls e tt

-- a line that was noted is no bad line: it is passed, or it is a call
noted_passes : (n : ℕ) (v : Result (Option CallValue) Wrong) (before after : List Listed) (lines : Bool) →
    ((rest : ListValue) → behind (map located after) rest ≡ behind (map located before) (with_line n v rest)) →
    lines ≡ true → is_call v || (is_passed v && lines) ≡ true
noted_passes n (Ok None) before after lines noted h = h
noted_passes n (Ok (Some call)) before after lines noted h = refl
noted_passes n (Err w) before after lines noted h = absurd (calls_not_bad _ n w (noted (calls [])))

-- what is left from the piece n on gives the whole, one piece on and at a bad line; m is the number of the line
module _ (kept more : List Listed) (n m : ℕ) (lines : List (List ℕ)) (line : List ℕ) (l : n < length lines) (e : m ≡ n + 1) (f : line ≡ get_or lines n line) where
  module _ (whole : ListValue) (inv : behind (map located kept) (list_from (n + 1) (drop n lines)) ≡ whole) where
    left : behind (map located kept) (with_line m (line_of line) (list_from (m + 1) (drop (n + 1) lines))) ≡ whole
    left =
        ap (λ k. behind (map located kept) (with_line k (line_of line) (list_from (k + 1) (drop (n + 1) lines)))) e
        ∙ ap (λ x. behind (map located kept) (with_line (n + 1) (line_of x) (list_from (n + 1 + 1) (drop (n + 1) lines)))) f
        ∙ sym (at_drop_more (λ ls. behind (map located kept) (list_from (n + 1) ls)) lines n line l) ∙ inv

    pub list_more : (next : ℕ) (done : Unit) → next ≡ n + 1 → Noted m (line_of line) kept more (Ok done) → behind (map located more) (list_from (next + 1) (drop next lines)) ≡ whole
    list_more next done g noted =
        ap (λ k. behind (map located more) (list_from (k + 1) (drop k lines))) g
        ∙ ap (λ k. behind (map located more) (list_from (k + 1) (drop (n + 1) lines))) (sym e)
        ∙ noted (list_from (m + 1) (drop (n + 1) lines)) ∙ left

  pub list_bad : (source : List ℕ) (fault : ListFault) → behind (map located kept) (list_from (n + 1) (drop n lines)) ≡ list_of source →
      Noted m (line_of line) kept more (Err fault) → ReadsList source (Err fault)
  list_bad source (Line k w) inv noted =
      sym (left (list_of source) inv) ∙ ap (λ v. behind (map located kept) (with_line m v (list_from (m + 1) (drop (n + 1) lines)))) noted.1
      ∙ ap (λ k. bad_line k w) (sym noted.0)
  list_bad source NoMemory inv noted = tt

  pub list_wants : (source : List ℕ) (fault : ListFault) → behind (map located kept) (list_from (n + 1) (drop n lines)) ≡ list_of source →
      (may_want (drop n lines) ≡ true → may_want (lines_of source) ≡ true) →
      Noted m (line_of line) kept more (Err fault) → ReadsListOrWantsMemory source (Err fault)
  list_wants source (Line k w) inv want noted = list_bad source (Line k w) inv noted
  list_wants source NoMemory inv want noted =
      want (at_drop_more may_want lines n line l ∙ ap (λ x. may_want (x ∷ drop (n + 1) lines)) (sym f) ∙ or_left (is_call (line_of line)) _ noted)

  -- where the pieces left may want memory, so may these and the one before them
  pub want_more : (next : ℕ) (done : Unit) → next ≡ n + 1 → Noted m (line_of line) kept more (Ok done) → may_want (drop next lines) ≡ true → may_want (drop n lines) ≡ true
  want_more next done g noted h =
      at_drop_more may_want lines n line l ∙ ap (λ x. may_want (x ∷ drop (n + 1) lines)) (sym f)
      ∙ noted_passes m (line_of line) kept more (may_want (drop (n + 1) lines)) noted (ap (λ k. may_want (drop k lines)) (sym g) ∙ h)

-- behind the last piece all calls are kept
pub list_end : (kept : List Listed) (n : ℕ) (lines : List (List ℕ)) (source : List ℕ) → behind (map located kept) (list_from (n + 1) (drop n lines)) ≡ list_of source →
    length lines ≤ n → list_of source ≡ calls (map located kept)
list_end kept n lines source inv l =
    sym inv ∙ at_drop_all (λ ls. behind (map located kept) (list_from (n + 1) ls)) lines n l ∙ ap calls (append-nil (map located kept))

-- the loop goes over the pieces with their indices
pub pieces_road : {F : Type 0} {g : Mut F (Bor ℕ × Unit {0}) Bool} {f : F} {s r : _} (text : List ℕ) (xs : List (ℕ × Bor (List ℕ))) (t : _) →
    Yields (enumerate_steps (split_steps g)) s xs t → split_rest r ≡ text → split_done r ≡ false → split_callee r ≡ f → enumerate_source s ≡ r → enumerate_count s ≡ 0 →
    ((x : ℕ) (b : Bool) (q : F) → CalledAt g f x b q → (q ≡ f) × (b ≡ is_break x)) →
    YieldsList {B = ℕ × List ℕ} (enumerate_steps (split_steps g)) (λ p. (p.0, p.1.now)) s (enumerate_from 0 (slice_split is_break text))
pieces_road {g = g} text xs t y rest done callee source count tests =
    YieldsList-from_enumerate (YieldsList-at source (YieldsList-from_slice_split g is_break text rest done callee tests)) count

-- one turn of it: the index and the piece
pub piece_turn : {S : Type 0} {steps : S → Option (ℕ × Bor (List ℕ)) → S → Type 0} {s : S} (all : List (List ℕ)) →
    YieldsList {B = ℕ × List ℕ} steps (λ p. (p.0, p.1.now)) s (enumerate_from 0 all) → (xs : List (ℕ × Bor (List ℕ))) (t : S) → Yields steps s xs t →
    (r : Option (ℕ × Bor (List ℕ))) (u : S) (x : ℕ × Bor (List ℕ)) → r ≡ Some x → steps t r u →
    (length xs < length all) × (x.0 ≡ length xs) × (x.1.now ≡ get_or all (length xs) x.1.now)
piece_turn all road xs t y r u x is step =
    let turn = YieldsList-turn road xs t y r u x is step in
    let m : length xs < length all = omega (arith, turn.0, length-enumerate_from 0 all) in
    let f = turn.1 ∙ get_or-enumerate_from 0 all (length xs) (x.0, x.1.now) m in
    (m, omega (arith, ap (λ p. p.0) f), ap (λ p. p.1) f)

-- its end
pub piece_end : {S : Type 0} {steps : S → Option (ℕ × Bor (List ℕ)) → S → Type 0} {s : S} (all : List (List ℕ)) →
    YieldsList {B = ℕ × List ℕ} steps (λ p. (p.0, p.1.now)) s (enumerate_from 0 all) → (xs : List (ℕ × Bor (List ℕ))) (t : S) → Yields steps s xs t →
    (r : Option (ℕ × Bor (List ℕ))) (u : S) → r ≡ None → steps t r u → length all ≤ length xs
piece_end all road xs t y r u is step = omega (arith, (YieldsList-end road xs t y r u is step).1, length-enumerate_from 0 all)
