-- Texts in another order: where they fit, none of the lines goes for them, and each comes in at its place.
use Rattle.std.proofs.Common.{◌≡◌, ◌==◌, ℕ, suc, ◌+◌, ◌≤◌, ◌<◌, Bool, true, false, cond, not, ◌||◌, eqb, ltb, List, [], ◌∷◌, None, length, take, filter, sym, refl, ap, ◌∙◌, inl, inr, arith}
use Rattle.std.specs.List.{AllByRecursion, list_any}
use Rattle.std.proofs.ByRecursion.{All-weaker}
use Rattle.std.proofs.lemmas.Bool.{cases_Bool, cond_both, cond-true, lt-ltb, not_from_false, true≢false}
use Rattle.std.proofs.lemmas.Bool.Decides.{nat_tests}
use Rattle.std.proofs.lemmas.List.Elements.{filter_agree}
use Rattle.ordering.specs.Shuffle.{Shuffle, Shuffle.none, Shuffle.keep, Shuffle.swap, Shuffle.both}
use Rattle.telegram.specs.Format.{OrderValue.authority, OrderValue.level, OrderValue.text, OrderValue.withdrawal, OrderValue.stop, OrderValue.sign, OrderValue.permission}
use Rattle.driver_desk.specs.Sorting.{put}
use Rattle.driver_desk.specs.declared.answer.Answer.{Answer}
use Rattle.cab_unit.specs.Events.{Event, Event.cycle, Event.order, Event.press, Event.take as taken, is_text}
use Rattle.cab_unit.specs.Facts.{Rising}
use Rattle.cab_unit.proofs.Sorted.{length-put, rising_kept, put_comm, kept_put}
use Rattle.messages.specs.Shown.{ShownLine, shown_before, Display, showing, without, with_text, after_calls, top}
use Rattle.messages.specs.Standing.{LinesDiffer}
use Rattle.messages.specs.Stretches.{text_number, after_text, after_texts, NumbersDiffer, others, Fits, StretchLaw}
use Rattle.messages.specs.Texts.{words_of}
use Rattle.messages.proofs.Lines.{shown-order, told-apart, number_sym, differ_filtered, without-fresh, rising-kept, differ-kept}
use Rattle.messages.proofs.Runs.{kept_after_text, after_calls_texts}

-- what a text brings in
pub text_shown : (e : Event) (d : Display) → is_text e ≡ true → after_text e d ≡ with_text (text_number e) (words_of e) d
text_shown (cycle block) d h = absurd (true≢false (sym h))
text_shown (order (authority m)) d h = absurd (true≢false (sym h))
text_shown (order (level l)) d h = absurd (true≢false (sym h))
text_shown (order (text n wanted t)) d h = refl
text_shown (order (withdrawal n)) d h = absurd (true≢false (sym h))
text_shown (order stop) d h = absurd (true≢false (sym h))
text_shown (order sign) d h = absurd (true≢false (sym h))
text_shown (order permission) d h = absurd (true≢false (sym h))
text_shown (press n) d h = absurd (true≢false (sym h))
text_shown (taken t) d h = absurd (true≢false (sym h))

-- of lines whose numbers differ one goes at most
one_goes : (n : ℕ) (l : List ShownLine) → LinesDiffer l → length l ≤ length (without n l) + 1
one_goes n [] h = omega arith
one_goes n (x ∷ xs) h = elim (cases_Bool (x.number == n)) [
  | inl e ↦
      let stay = without-fresh n xs (All-weaker (λ m. (x.number == m.number) ≡ false) (λ m. (n == m.number) ≡ false) (λ m f. grind (arith, nat_tests)) xs h.0) in
      simp e (omega (arith, ap length stay))
  | inr e ↦ simp e (omega (arith, one_goes n xs h.1))
]

others-none : (l : List ShownLine) → others [] l ≡ l
others-none [] = refl
others-none (x ∷ xs) = ap (λ t. x ∷ t) (others-none xs)

eqb_comm : (n m : ℕ) → eqb n m ≡ eqb m n
eqb_comm n m = grind (arith, nat_tests)

-- the lines of no text's number, taken out by one text after another
others-more : (e : Event) (es : List Event) (l : List ShownLine) → others (e ∷ es) l ≡ others es (without (text_number e) l)
others-more e es [] = refl
others-more e es (x ∷ xs) = elim (cases_Bool (x.number == text_number e)) [
  | inl h ↦ let k = eqb_comm (text_number e) x.number ∙ h in simp (h, k) (others-more e es xs)
  | inr h ↦
      let k = eqb_comm (text_number e) x.number ∙ h in
      simp (h, k) (ap (λ t. cond (not (list_any (λ f. text_number f == x.number) es)) (x ∷ t) t) (others-more e es xs))
]

-- each text has one line at most
few_stand : (es : List Event) (l : List ShownLine) → LinesDiffer l → length l ≤ length (others es l) + length es
few_stand [] l h = omega (arith, ap length (others-none l))
few_stand (e ∷ es) l h =
    omega (arith, one_goes (text_number e) l h, few_stand es (without (text_number e) l) (differ_filtered _ l h), ap length (others-more e es l))

-- where the texts fit, there is room for the first
room : (e : Event) (es : List Event) (d : Display) → LinesDiffer d.lines → Fits (e ∷ es) d → length (without (text_number e) d.lines) < 12
room e es d h f =
    omega (arith, few_stand es (without (text_number e) d.lines) (differ_filtered _ d.lines h), ap length (others-more e es d.lines), f.1)

-- the line of a text
abbrev line : Event → Display → ShownLine
line e d = record { cycle = d.cycle; number = text_number e; words = words_of e }

-- so it is put among the others
placed : (e : Event) (es : List Event) (d : Display) → is_text e ≡ true → LinesDiffer d.lines → Fits (e ∷ es) d → after_text e d ≡ showing (put shown_before (line e d) (without (text_number e) d.lines)) d
placed e es d t h f =
    let l = without (text_number e) d.lines in
    text_shown e d t ∙ ap (λ k. showing (put shown_before (line e d) k) d) (cond-true (ltb (length l) 12) l (take 11 l) (lt-ltb (length l) 12 (room e es d h f)))

-- and the rest of the texts fit behind it
fits_after : (e : Event) (es : List Event) (d : Display) → is_text e ≡ true → Rising shown_before d.lines → LinesDiffer d.lines → Fits (e ∷ es) d → Fits es (after_text e d)
fits_after e es d t r h f =
    let n = text_number e in
    let l = without n d.lines in
    let x = line e d in
    let p : ShownLine → Bool = λ m. not (list_any (λ g. text_number g == m.number) es) in
    let kept : others es (put shown_before x l) ≡ cond (p x) (put shown_before x (others es l)) (others es l) = kept_put shown-order p x l (rising_kept shown_before _ d.lines r) in
    let most : length (cond (p x) (put shown_before x (others es l)) (others es l)) ≤ suc (length (others es l)) =
    cond_both (p x) (put shown_before x (others es l)) (others es l) (λ k. length k ≤ suc (length (others es l))) (λ _. omega (arith, length-put shown_before x (others es l))) (λ _. omega arith) in
    let at' : length (others es (after_text e d).lines) ≡ length (others es (put shown_before x l)) = ap (λ v. length (others es v.lines)) (placed e es d t h f) in
    (f.0.1, omega (arith, at', ap length kept, most, f.1, ap length (others-more e es d.lines)))

-- two filters, either first
filter_comm : {X : Type 0} (p q : X → Bool) (l : List X) → filter p (filter q l) ≡ filter q (filter p l)
filter_comm p q [] = refl
filter_comm p q (x ∷ xs) = elim (cases_Bool (p x)) [
  | inl e ↦ elim (cases_Bool (q x)) [
    | inl f ↦ simp (e, f, e, f) (ap (λ t. x ∷ t) (filter_comm p q xs))
    | inr f ↦ simp (e, f) (filter_comm p q xs)
  ]
  | inr e ↦ elim (cases_Bool (q x)) [
    | inl f ↦ simp (e, f) (filter_comm p q xs)
    | inr f ↦ simp (e, f) (filter_comm p q xs)
  ]
]

-- a line of another number comes in before or behind a removal
without-put : (n : ℕ) (x : ShownLine) (l : List ShownLine) → (x.number == n) ≡ false → Rising shown_before l → without n (put shown_before x l) ≡ put shown_before x (without n l)
without-put n x l e r =
    let p : ShownLine → Bool = λ m. not (m.number == n) in
    kept_put shown-order p x l r ∙ cond-true (p x) (put shown_before x (filter p l)) (filter p l) (not_from_false (x.number == n) e)

-- a text behind another
two_placed : (e f : Event) (es : List Event) (d : Display) → is_text e ≡ true → is_text f ≡ true → Rising shown_before d.lines → LinesDiffer d.lines → Fits (e ∷ f ∷ es) d →
    after_text f (after_text e d) ≡ showing (put shown_before (line f d) (put shown_before (line e d) (without (text_number f) (without (text_number e) d.lines)))) d
two_placed e f es d t u r h fit =
    let l = without (text_number e) d.lines in
    let v = after_text e d in
    let one = placed e (f ∷ es) d t h fit in
    let two = placed f es v u (kept_after_text LinesDiffer differ-kept e d h) (fits_after e (f ∷ es) d t r h fit) in
    two
    ∙ ap (λ w. showing (put shown_before (line f w) (without (text_number f) w.lines)) w) one
    ∙ ap (λ k. showing (put shown_before (line f d) k) d) (without-put (text_number f) (line e d) l fit.0.0.0 (rising_kept shown_before _ d.lines r))

-- what holds of each holds of each in another order
pub all_shuffled : {X : Type 0} (P : X → Type 0) {xs ys : List X} → Shuffle xs ys → AllByRecursion P xs → AllByRecursion P ys
all_shuffled P none h = h
all_shuffled P (keep s) h = (h.0, all_shuffled P s h.1)
all_shuffled P swap h = (h.1.0, (h.0, h.1.1))
all_shuffled P (both s t) h = all_shuffled P t (all_shuffled P s h)

shuffle_length : {X : Type 0} {xs ys : List X} → Shuffle xs ys → length xs ≡ length ys
shuffle_length none = refl
shuffle_length (keep s) = ap suc (shuffle_length s)
shuffle_length swap = refl
shuffle_length (both s t) = shuffle_length s ∙ shuffle_length t

or_swap : (a b c : Bool) → (a || (b || c)) ≡ (b || (a || c))
or_swap true true c = refl
or_swap true false c = refl
or_swap false b c = refl

any_shuffled : {X : Type 0} (p : X → Bool) {xs ys : List X} → Shuffle xs ys → list_any p xs ≡ list_any p ys
any_shuffled p none = refl
any_shuffled p (keep {x} s) = ap (λ b. p x || b) (any_shuffled p s)
any_shuffled p (swap {x} {y} {xs}) = or_swap (p x) (p y) (list_any p xs)
any_shuffled p (both s t) = any_shuffled p s ∙ any_shuffled p t

numbers_shuffled : {es fs : List Event} → Shuffle es fs → NumbersDiffer es → NumbersDiffer fs
numbers_shuffled none h = h
numbers_shuffled (keep {x} s) h = (all_shuffled (λ f. (text_number x == text_number f) ≡ false) s h.0, numbers_shuffled s h.1)
numbers_shuffled (swap {x} {y} {xs}) h = ((number_sym (text_number x) (text_number y) h.0.0, h.1.0), (h.0.1, h.1.1))
numbers_shuffled (both s t) h = numbers_shuffled t (numbers_shuffled s h)

-- texts that fit do so in any order
pub fits_shuffled : {es fs : List Event} (d : Display) → Shuffle es fs → Fits es d → Fits fs d
fits_shuffled {es} {fs} d s f =
    let same : others es d.lines ≡ others fs d.lines =
    filter_agree (λ l. not (list_any (λ e. text_number e == l.number) es)) (λ l. not (list_any (λ e. text_number e == l.number) fs))
    (λ l. ap (λ b. not b) (any_shuffled (λ e. text_number e == l.number) s)) d.lines in
    (numbers_shuffled s f.0, omega (arith, shuffle_length s, ap length same, f.1))

-- two neighbours change places
swap_two : (x y : Event) (xs : List Event) (d : Display) → is_text x ≡ true → is_text y ≡ true → Rising shown_before d.lines → LinesDiffer d.lines → Fits (x ∷ y ∷ xs) d →
    after_text y (after_text x d) ≡ after_text x (after_text y d)
swap_two x y xs d t u r h f =
    let n = text_number x in
    let m = text_number y in
    let apart = told-apart (line y d) (line x d) (number_sym n m f.0.0.0) in
    two_placed x y xs d t u r h f
    ∙ ap (λ k. showing k d) (put_comm shown-order (line y d) (line x d) apart (without m (without n d.lines)))
    ∙ ap (λ k. showing (put shown_before (line x d) (put shown_before (line y d) k)) d) (filter_comm _ _ d.lines)
    ∙ sym (two_placed y x xs d u t r h (fits_shuffled d (swap {x = x} {y = y} {xs = xs}) f))

-- texts in another order leave the same lines
pub shuffled : {es fs : List Event} (d : Display) → Shuffle es fs → AllByRecursion (λ e. is_text e ≡ true) es → Rising shown_before d.lines → LinesDiffer d.lines → Fits es d → after_texts es d ≡ after_texts fs d
shuffled d none t r h f = refl
shuffled d (keep {x} {xs} {ys} s) t r h f =
    shuffled (after_text x d) s t.1 (kept_after_text (Rising shown_before) rising-kept x d r) (kept_after_text LinesDiffer differ-kept x d h) (fits_after x xs d t.0 r h f)
shuffled d (swap {x} {y} {xs}) t r h f = ap (after_texts xs) (swap_two x y xs d t.0 t.1.0 r h f)
shuffled d (both s u) t r h f = shuffled d s t r h f ∙ shuffled d u (all_shuffled (λ e. is_text e ≡ true) s t) r h (fits_shuffled d s f)

-- so the window shows the same on top
pub stretch_law : StretchLaw
stretch_law d es fs r h t s f = let e = shuffled d s t r h f in (ap (λ v. top v.lines) e, e)

-- the same of calls that were accepted
pub calls_shuffled : (es fs : List Event) (as' bs : List Answer) (d : Display) → Shuffle es fs → AllByRecursion (λ e. is_text e ≡ true) es →
    AllByRecursion (λ a. a.outcome ≡ None) as' → AllByRecursion (λ a. a.outcome ≡ None) bs → length as' ≡ length es → length bs ≡ length fs →
    Rising shown_before d.lines → LinesDiffer d.lines → Fits es d → after_calls es as' d ≡ after_calls fs bs d
calls_shuffled es fs as' bs d s t h k l m r n f =
    after_calls_texts es as' d t h l ∙ shuffled d s t r n f ∙ sym (after_calls_texts fs bs d (all_shuffled (λ e. is_text e ≡ true) s t) k m)
