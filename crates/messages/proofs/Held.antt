-- The lines that the code holds in no order, and the window that they mean.
use Rattle.std.proofs.Common.{◌≡◌, ◌==◌, ℕ, zero, suc, ◌+◌, ◌≤◌, ◌<◌, min, true, false, not, ◌||◌, eqb, ltb, List, [], ◌∷◌, ◌++◌, Some, None, Option, map, length, get_or, drop, take, sym, refl, ap, ◌∙◌, subst, inl, inr, ⊎_elim, arith}
use Rattle.std.specs.List.{AllByRecursion, slice_get}
use Rattle.std.proofs.ByRecursion.{All-map, All-from_get_or}
use Rattle.std.proofs.lemmas.Bool.{cases_Bool, cases_lt, cases_order, cond-true, cond-false, or_parts, or_from, lt-ltb, le-ltb, ne_eqb, eqb-true, both_ways, true≢false}
use Rattle.std.proofs.lemmas.Bool.Decides.{nat_tests}
use Rattle.std.proofs.lemmas.List.{drop_more, drop_all, append_assoc, append-nil, length-map, length-take, get_or-map}
use Rattle.std.proofs.lemmas.List.Folds.{list_any_at}
use Rattle.std.proofs.lemmas.Option.{slice_get-get_or}
use Rattle.ordering.specs.Order.{NoneBefore, Leads}
use Rattle.driver_desk.specs.Sorting.{some}
use Rattle.driver_desk.specs.declared.answer.Answer.{Answer}
use Rattle.cab_unit.specs.Events.{Event, said}
use Rattle.cab_unit.specs.Facts.{Rising}
use Rattle.cab_unit.specs.Places.{sorted}
use Rattle.cab_unit.specs.declared.call.Call.{Call}
use Rattle.cab_unit.proofs.Places.{all_sorted, length-sorted, any_sorted, rising_sorted, kept_sorted, first_out}
use Rattle.window.specs.Lines.{newer, has, removed, NumbersDiffer}
use Rattle.window.specs.Window.{lines, rows, added}
use Rattle.window.specs.declared.Window.{Window}
use Rattle.window.specs.declared.line.Line.{Line}
use Rattle.messages.specs.Shown.{ShownLine, shown_before, Display, without, making_room, after_call, top, messages_from}
use Rattle.messages.specs.Standing.{LinesDiffer}
use Rattle.messages.specs.Texts.{text_at}
use Rattle.messages.specs.View.{line_of}
use Rattle.messages.proofs.Lines.{shown-order, told-apart, differ_told, differ_put}

-- what a place holds where nothing was written
abbrev pub free : Line
free = record { cycle = 0; number = 0; place = 0; length = 0 }

-- what the lines mean, in order
abbrev pub in_order : List Event → List Line → List ShownLine
in_order es ls = sorted shown_before (map (line_of es) ls)

-- a removal
map-removed : (es : List Event) (n : ℕ) (ls : List Line) → map (line_of es) (removed n ls) ≡ without n (map (line_of es) ls)
map-removed es n [] = refl
map-removed es n (l ∷ ls) = elim (cases_Bool (l.number == n)) [
  | inl e ↦ simp (e, e) (map-removed es n ls)
  | inr e ↦ simp (e, e) (ap (λ t. line_of es l ∷ t) (map-removed es n ls))
]

pub in_order-removed : (es : List Event) (n : ℕ) (ls : List Line) → in_order es (removed n ls) ≡ without n (in_order es ls)
in_order-removed es n ls = ap (sorted shown_before) (map-removed es n ls) ∙ sym (kept_sorted shown-order (λ l. not (l.number == n)) (map (line_of es) ls))

at_most : (n : ℕ) (ls : List Line) → length (removed n ls) ≤ length ls
at_most n [] = omega arith
at_most n (l ∷ ls) = elim (cases_Bool (l.number == n)) [ inl e ↦ simp e (omega (arith, at_most n ls)) | inr e ↦ simp e (omega (arith, at_most n ls)) ]

-- a number that is there takes a line along
pub fewer-removed : (n : ℕ) (ls : List Line) → has n ls ≡ true → length (removed n ls) < length ls
fewer-removed n [] h = absurd (true≢false (sym h))
fewer-removed n (l ∷ ls) h = elim (cases_Bool (l.number == n)) [
  | inl e ↦ simp e (omega (arith, at_most n ls))
  | inr e ↦
      let h' : has n ls ≡ true = simp e at h in
      simp e (omega (arith, fewer-removed n ls h'))
]

-- where a number is not, it is not after a removal
pub has-removed : (m n : ℕ) (ls : List Line) → has m ls ≡ false → has m (removed n ls) ≡ false
has-removed m n [] h = refl
has-removed m n (l ∷ ls) h =
    let p = or_parts (l.number == m) (has m ls) h in
    elim (cases_Bool (l.number == n)) [
      | inl e ↦ simp e (has-removed m n ls p.1)
      | inr e ↦ simp e (or_from (l.number == m) (has m (removed n ls)) p.0 (has-removed m n ls p.1))
    ]

-- a line with a new number comes to the front of a window that has room
pub added-new : (room : ℕ) (ls : List Line) (l : Line) → has l.number ls ≡ false → length ls < room → added room ls l ≡ l ∷ ls
added-new room ls l h k = let t : ltb (length ls) room ≡ true = lt-ltb _ _ k in simp (h, t)

-- no more lines are held than there is room for
pub most-held : (w : Window) → length (lines w) ≤ rows w
most-held w = omega (arith, length-take w.shelf.count w.shelf.run.now)

-- as many lines
pub length-in_order : (es : List Event) (ls : List Line) → length (in_order es ls) ≡ length ls
length-in_order es ls = length-sorted shown_before (map (line_of es) ls) ∙ length-map ls (line_of es)

-- numbers that differ still do
others_differ : (es : List Event) (l : Line) (ls : List Line) → NumbersDiffer (l ∷ ls) → AllByRecursion (λ m. (l.number == m.number) ≡ false) (map (line_of es) ls)
others_differ es l ls h =
    All-map (λ m. (l.number == m.number) ≡ false) (line_of es) ls
    (All-from_get_or (λ m. (l.number == m.number) ≡ false) ls l (λ k below. ne_eqb _ _ (h 0 (suc k) l (omega arith) (omega arith))))

pub map_differ : (es : List Event) (ls : List Line) → NumbersDiffer ls → LinesDiffer (map (line_of es) ls)
map_differ es [] h = tt
map_differ es (l ∷ ls) h = (others_differ es l ls h, map_differ es ls (λ i j d before within. h (suc i) (suc j) d (omega arith) (omega arith)))

sorted_differ : (l : List ShownLine) → LinesDiffer l → LinesDiffer (sorted shown_before l)
sorted_differ [] h = tt
sorted_differ (x ∷ xs) h =
    differ_put x (sorted shown_before xs) (all_sorted shown_before (λ m. (x.number == m.number) ≡ false) xs h.0) (sorted_differ xs h.1)

-- the line that leads is on top
pub top_leads : (es : List Event) (ls : List Line) (r : Option ℕ) (d : Line) → NumbersDiffer ls → Leads newer ls r → (i : ℕ) → r ≡ Some i → top (in_order es ls) ≡ Some (text_at es (get_or ls i d).place)
top_leads es ls None d h lead i e = absurd (cc)
top_leads es ls (Some j) d h lead i e =
    let same : j ≡ i = cc in
    let l = map (line_of es) ls in
    let z = line_of es (get_or ls j d) in
    let read : get_or l j z ≡ z = get_or-map (line_of es) ls j d z lead.0 in
    let none : AllByRecursion (λ y. shown_before y z ≡ false) l =
    All-map (λ y. shown_before y z ≡ false) (line_of es) ls
    (All-from_get_or (λ (y : Line). newer y (get_or ls j d) ≡ false) ls d (λ k within. elim (cases_Bool (eqb k j)) [
      | inl f ↦ let f' = eqb-true k j f in rw f' (grind (arith, nat_tests))
      | inr f ↦
          let first : newer (get_or ls j d) (get_or ls k d) ≡ true = lead.1 k d within (λ t. absurd (both_ways (eqb k j) f (grind (arith, nat_tests)))) in
          grind (arith, nat_tests)
    ])) in
    let out = first_out shown-order l j z (omega (arith, length-map ls (line_of es), lead.0)) (differ_told l (map_differ es ls h)) (subst (λ t. AllByRecursion (λ y. shown_before y t ≡ false) l) (sym read) none) in
    ap top out ∙ ap (λ (t : ShownLine). Some t.words) read ∙ ap (λ k. Some (text_at es (get_or ls k d).place)) same

-- where no line leads there is none
pub top-none : (es : List Event) (ls : List Line) → Leads newer ls None → top (in_order es ls) ≡ None
top-none es [] h = refl
top-none es (l ∷ ls) h = absurd (omega (arith, h))

-- one that none is behind is the last
last_goes : (z : ShownLine) (k : ℕ) (s : List ShownLine) → Rising shown_before s → LinesDiffer s → AllByRecursion (λ x. (x.number == z.number) ≡ true → x ≡ z) s →
    AllByRecursion (λ y. shown_before z y ≡ false) s → some (λ x. x.number == z.number) s ≡ true → length s ≡ suc k → without z.number s ≡ take k s
last_goes z k [] r d e b c h = absurd (omega arith)
last_goes z zero (x ∷ []) r d e b c h = elim (cases_Bool (x.number == z.number)) [
  | inl f ↦ simp f
  | inr f ↦ absurd (true≢false (sym (simp f at c)))
]
last_goes z zero (x ∷ y ∷ ys) r d e b c h = absurd (omega arith)
last_goes z (suc k) (x ∷ []) r d e b c h = absurd (omega arith)
last_goes z (suc k) (x ∷ y ∷ ys) r d e b c h = elim (cases_Bool (x.number == z.number)) [
  | inl f ↦
      let not_first : shown_before x y ≡ false = subst (λ t. shown_before t y ≡ false) (sym (e.0 f)) b.1.0 in
      let not_second : shown_before y x ≡ false = r.0.0 in
      let told : (shown_before x y || shown_before y x) ≡ true = told-apart x y d.0.0 in
      absurd (true≢false (sym told ∙ simp (not_first, not_second)))
  | inr f ↦
      let c' : some (λ t. t.number == z.number) (y ∷ ys) ≡ true = simp f at c in
      let rest = last_goes z k (y ∷ ys) r.1 d.1 e.1 b.1 c' (omega arith) in
      simp f (ap (λ t. x ∷ t) rest)
]

-- lines of one number are one
one_line : (es : List Event) (ls : List Line) (i k : ℕ) (d : Line) → NumbersDiffer ls → i < length ls → k < length ls → (get_or ls k d).number ≡ (get_or ls i d).number → line_of es (get_or ls k d) ≡ line_of es (get_or ls i d)
one_line es ls i k d h a b e = elim (cases_order k i) [
  | inl same ↦ ap (λ j. line_of es (get_or ls j d)) same
  | inr other ↦ ⊎_elim (λ less. absurd (h k i d less a e)) (λ more. absurd (h i k d more b (sym e))) other
]

-- of twelve lines the last makes room
pub made_room : (es : List Event) (ls : List Line) (i : ℕ) (d : Line) → NumbersDiffer ls → length ls ≡ 12 → NoneBefore (λ x y. newer y x) ls (Some i) →
    in_order es (removed (get_or ls i d).number ls) ≡ making_room (in_order es ls)
made_room es ls i d h full last =
    let z = line_of es (get_or ls i d) in
    let l = map (line_of es) ls in
    let s = sorted shown_before l in
    let same : AllByRecursion (λ x. (x.number == z.number) ≡ true → x ≡ z) s =
    all_sorted shown_before (λ x. (x.number == z.number) ≡ true → x ≡ z) l
    (All-map (λ (x : ShownLine). (x.number == z.number) ≡ true → x ≡ z) (line_of es) ls
    (All-from_get_or (λ (y : Line). (y.number == z.number) ≡ true → line_of es y ≡ z) ls d (λ k within t. one_line es ls i k d h last.0 within (eqb-true _ _ t)))) in
    let behind : AllByRecursion (λ y. shown_before z y ≡ false) s =
    all_sorted shown_before (λ y. shown_before z y ≡ false) l
    (All-map (λ y. shown_before z y ≡ false) (line_of es) ls
    (All-from_get_or (λ (y : Line). newer (get_or ls i d) y ≡ false) ls d (λ k within. last.1 k d within))) in
    let there : some (λ x. x.number == z.number) s ≡ true =
    any_sorted shown_before (λ x. x.number == z.number) l
    ∙ list_any_at (λ (x : ShownLine). x.number == z.number) l i z (omega (arith, length-map ls (line_of es), last.0))
    (ap (λ (t : ShownLine). t.number == z.number) (get_or-map (line_of es) ls i d z last.0) ∙ grind (arith, nat_tests)) in
    let long : length s ≡ 12 = length-in_order es ls ∙ full in
    in_order-removed es (get_or ls i d).number ls
    ∙ last_goes z 11 s (rising_sorted shown-order l) (sorted_differ l (map_differ es ls h)) same behind there long
    ∙ sym (cond-false (ltb (length s) 12) s (take 11 s) (le-ltb (length s) 12 (omega arith)))

-- where a place is free, none has to go
pub room-left : (es : List Event) (ls : List Line) → length ls < 12 → making_room (in_order es ls) ≡ in_order es ls
room-left es ls h =
    let s = in_order es ls in
    cond-true (ltb (length s) 12) s (take 11 s) (grind (arith, nat_tests, length-in_order es ls))

-- the call at a place of a run
pub said-at : (calls : List Call) (i : ℕ) (k : Call) → i < length calls → slice_get (map said calls) i ≡ Some (said (get_or calls i k))
said-at calls i k h = slice_get-get_or (map said calls) i (said k) (omega (arith, length-map calls said)) ∙ ap Some (get_or-map said calls i k (said k) h)

-- one more turn of the loop over the calls
pub messages_more : (calls : List Call) (as' : List Answer) (i : ℕ) (k : Call) (b : Answer) (d v : Display) (xs ys z : List (Option (List ℕ))) → i < length calls → i < length as' →
    v ≡ after_call (said (get_or calls i k)) (get_or as' i b) d → ys ≡ xs ++ top v.lines ∷ [] →
    xs ++ messages_from d (drop i (map said calls)) (drop i as') ≡ z → ys ++ messages_from v (drop (i + 1) (map said calls)) (drop (i + 1) as') ≡ z
messages_more calls as' i k b d v xs ys z h l new put' inv =
    let es = map said calls in
    let e = said (get_or calls i k) in
    let a = get_or as' i b in
    let rest = messages_from v (drop (i + 1) es) (drop (i + 1) as') in
    let first : drop i es ≡ e ∷ drop (i + 1) es =
    drop_more es i (said k) (omega (arith, length-map calls said)) ∙ ap (λ t. t ∷ drop (i + 1) es) (get_or-map said calls i k (said k) h) in
    let step : messages_from d (drop i es) (drop i as') ≡ top v.lines ∷ rest =
    ap (λ t. messages_from d t (drop i as')) first ∙ ap (messages_from d (e ∷ drop (i + 1) es)) (drop_more as' i b l)
    ∙ ap (λ (w : Display). top w.lines ∷ messages_from w (drop (i + 1) es) (drop (i + 1) as')) (sym new) in
    ap (λ t. t ++ rest) put' ∙ append_assoc xs (top v.lines ∷ []) rest ∙ ap (λ t. xs ++ t) (sym step) ∙ inv

messages-none : (d : Display) (es : List Event) → messages_from d es [] ≡ []
messages-none d [] = refl
messages-none d (e ∷ es) = refl

-- and its end
pub messages_end : (calls : List Call) (as' : List Answer) (i : ℕ) (d : Display) (xs z : List (Option (List ℕ))) → min (length calls) (length as') ≤ i →
    xs ++ messages_from d (drop i (map said calls)) (drop i as') ≡ z → xs ≡ z
messages_end calls as' i d xs z h inv =
    let es = map said calls in
    let long = length-map calls said in
    elim (cases_lt i (length es)) [
      | inl within ↦
          let over : length as' ≤ i = omega arith in
          sym (append-nil xs) ∙ ap (λ t. xs ++ t) (sym (ap (messages_from d (drop i es)) (drop_all i as' over) ∙ messages-none d (drop i es))) ∙ inv
      | inr over ↦ sym (append-nil xs) ∙ ap (λ t. xs ++ messages_from d t (drop i as')) (sym (drop_all i es over)) ∙ inv
    ]
