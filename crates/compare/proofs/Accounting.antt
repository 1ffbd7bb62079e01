-- The account of texts that came in one list and not yet in the other.
use Rattle.std.proofs.Common.{◌≡◌, ℕ, zero, suc, ◌+◌, ◌<◌, ◌≤◌, Bool, true, false, cond, List, [], ◌∷◌, ◌++◌, map, length, take, is_some, Some, None, Option, IfSome, ◌≢◌, sym, refl, ap, ◌∙◌, subst, subst₂, ⊎_elim, arith}
use Rattle.std.proofs.lemmas.Bool.{true≢false, cases_Bool, cond-true}
use Rattle.std.proofs.lemmas.Bool.Decides.{same_from_decides}
use Rattle.std.proofs.lemmas.Cmp.{tied_itself}
use Rattle.std.proofs.lemmas.List.{nil_from_length, take-map}
use Rattle.std.specs.BTreeMap.{BTreeMap, get, is_at}
use Rattle.std.specs.Map.{lookup}
use Rattle.std.specs.Option.{unwrap_or}
use Rattle.std.specs.Ordering.{is_eq}
use Rattle.std.specs.List.{filter_map}
use Rattle.cab_unit.specs.declared.call.Call.{Call}
use Rattle.cab_unit.specs.Events.{Event, said}
use Rattle.ordering.specs.Shuffle.{Shuffle}
use Rattle.compare.specs.Account.{left_of, right_of, Open, Entered, Bounded}
use Rattle.compare.specs.Asked.{by_key, Words, words, by_words, keyed, text_key}
use Rattle.compare.specs.Walked.{Texts}
use Rattle.compare.specs.declared.asked.TextKey.{TextKey}
use Rattle.compare.specs.declared.account.Surplus.{Surplus}
use Rattle.compare.proofs.Events.{same_event, events_decide}
use Rattle.compare.proofs.Keying.{by_words_total, words_equal, words_of, saying, keys_of_texts}
use Rattle.compare.proofs.Shuffling.{tally, same-tally}
use Rattle.compare.proofs.Counts.{tally-parts, counted_rest, counts_shuffle}

-- at equal words the same is found
same_found : (m : BTreeMap TextKey Surplus) (k q : TextKey) → is_eq (by_key k q) ≡ true → get by_key m q ≡ get by_key m k
same_found m k q e = here (words q) (words k) (sym (words_equal (words k) (words q) e))
  where
    here : (w v : _) → w ≡ v → get (λ _ (l : TextKey). by_words w (words l)) m q ≡ get (λ _ (l : TextKey). by_words v (words l)) m q
    here w v p = ap (λ u. get (λ _ (l : TextKey). by_words u (words l)) m q) p

-- w is written at k
module _ (m n : BTreeMap TextKey Surplus) (k : TextKey) (w : Option Surplus) (u : (q : TextKey) → get by_key n q ≡ cond (is_eq (by_key k q)) w (get by_key m q)) where
  pub entered : (a b : ℕ) → right_of w + left_of (get by_key m k) + a ≡ left_of w + right_of (get by_key m k) + b → (q : TextKey) →
      right_of (get by_key n q) + left_of (get by_key m q) + cond (is_eq (by_key k q)) a 0 ≡ left_of (get by_key n q) + right_of (get by_key m q) + cond (is_eq (by_key k q)) b 0
  entered a b h q = here (is_eq (by_key k q)) refl (u q)
    where
      here : (t : Bool) → is_eq (by_key k q) ≡ t → get by_key n q ≡ cond t w (get by_key m q) →
          right_of (get by_key n q) + left_of (get by_key m q) + cond t a 0 ≡ left_of (get by_key n q) + right_of (get by_key m q) + cond t b 0
      here true e g =
          let r = ap right_of g in
          let l = ap left_of g in
          let s = same_found m k q e in
          let r' = ap right_of s in
          let l' = ap left_of s in
          omega (arith, h, r, l, r', l')
      here false e g =
          let r = ap right_of g in
          let l = ap left_of g in
          omega (arith, r, l)

  pub still_open : Open m → IfSome w (λ s. s.left ≢ s.right) → Open n
  still_open o h q = subst (λ x. IfSome x (λ s. s.left ≢ s.right)) (sym (u q)) (here (is_eq (by_key k q)))
    where
      here : (t : Bool) → IfSome (cond t w (get by_key m q)) (λ s. s.left ≢ s.right)
      here true = h
      here false = o q

  pub still_bounded : (i j a b : ℕ) → Bounded i j m → (left_of w ≤ i + a) × (right_of w ≤ j + b) → Bounded (i + a) (j + b) n
  still_bounded i j a b o h q = subst (λ x. (left_of x ≤ i + a) × (right_of x ≤ j + b)) (sym (u q)) (here (is_eq (by_key k q)))
    where
      here : (t : Bool) → (left_of (cond t w (get by_key m q)) ≤ i + a) × (right_of (cond t w (get by_key m q)) ≤ j + b)
      here true = h
      here false = let l = o q in (omega (arith, l.0), omega (arith, l.1))

cond_over : {X : Type 0} (t : Bool) (w v x : X) → cond t w (cond t v x) ≡ cond t w x
cond_over true w v x = refl
cond_over false w v x = refl

-- what is written twice at k is what was written last
pub written_over : (m l n : BTreeMap TextKey Surplus) (k : TextKey) (v w : Option Surplus) →
    ((q : TextKey) → get by_key l q ≡ cond (is_eq (by_key k q)) v (get by_key m q)) →
    ((q : TextKey) → get by_key n q ≡ cond (is_eq (by_key k q)) w (get by_key l q)) →
    (q : TextKey) → get by_key n q ≡ cond (is_eq (by_key k q)) w (get by_key m q)
written_over m l n k v w u t q = t q ∙ ap (cond (is_eq (by_key k q)) w) (u q) ∙ cond_over (is_eq (by_key k q)) w v (get by_key m q)

-- no text yet
abbrev pub even : Surplus
even = record { left = 0; right = 0 }

-- the surplus that was found
pub before_is : (o : Option Surplus) (s : Surplus) → s ≡ unwrap_or o even → (s.left ≡ left_of o) × (s.right ≡ right_of o)
before_is None s e = (ap (λ (x : Surplus). x.left) e, ap (λ (x : Surplus). x.right) e)
before_is (Some x) s e = (ap (λ (x : Surplus). x.left) e, ap (λ (x : Surplus). x.right) e)

-- as often as q says it, a text came in the lists, but for the account
abbrev pub Owes : BTreeMap TextKey Surplus → List Event → List Event → Type 0
Owes m P Q = (q : TextKey) → tally (same_event (keyed q)) P + right_of (get by_key m q) ≡ tally (same_event (keyed q)) Q + left_of (get by_key m q)

-- keys are equal in their order where they say the same
equal_words : (x y : Words) → x ≡ y → is_eq (by_words x y) ≡ true
equal_words x y e = subst (λ z. is_eq (by_words x z) ≡ true) e (ap is_eq (tied_itself by_words_total x))

words_of_key : (k q : TextKey) → keyed k ≡ keyed q → words k ≡ words q
words_of_key k q e = ap words_of e

same_key : (k q : TextKey) → is_eq (by_key k q) ≡ same_event (keyed q) (keyed k)
same_key k q =
    same_from_decides _ _
    (λ h. sym (ap saying (words_equal (words k) (words q) h)), λ e. equal_words (words k) (words q) (words_of_key k q (sym e)))
    (events_decide (keyed q) (keyed k))

cond_zero : (b : Bool) → ◌≡◌ {A = ℕ} (cond b 0 0) 0
cond_zero true = refl
cond_zero false = refl

-- one text more in either
pub owes_more : (m m₁ m₂ : BTreeMap TextKey Surplus) (k l : TextKey) (P Q : List Event) → Owes m P Q → Entered m k (record { left = 1; right = 0 }) m₁ → Entered m₁ l (record { left = 0; right = 1 }) m₂ →
    Owes m₂ (P ++ keyed k ∷ []) (Q ++ keyed l ∷ [])
owes_more m m₁ m₂ k l P Q o e f q =
    let o' = o q in
    let e' = e q in
    let f' = f q in
    let s = tally-parts (same_event (keyed q)) P (keyed k ∷ []) in
    let t = tally-parts (same_event (keyed q)) Q (keyed l ∷ []) in
    let c = ap {B = ℕ} (λ b. cond b 1 0) (same_key k q) in
    let d = ap {B = ℕ} (λ b. cond b 1 0) (same_key l q) in
    let z = cond_zero (is_eq (by_key k q)) in
    let y = cond_zero (is_eq (by_key l q)) in
    omega (arith, o', e', f', s, t, c, d, z, y)

-- what stands open and is even is nothing
none_open : (o : Option Surplus) → IfSome o (λ s. s.left ≢ s.right) → right_of o ≡ left_of o → o ≡ None
none_open None h e = refl
none_open (Some s) h e = absurd (h (sym e))

no_entries : (es : List (TextKey × Surplus)) → ((q : TextKey) → lookup (is_at (by_key q)) es ≡ None) → length es ≡ 0
no_entries [] h = refl
no_entries (e ∷ es) h =
    let f = sym (cond-true (is_at (by_key e.0) e.0) (Some e.1) (lookup (is_at (by_key e.0)) es) (equal_words (words e.0) (words e.0) refl)) ∙ h e.0 in
    absurd (true≢false (ap is_some f))

nothing_found : (es : List (TextKey × Surplus)) (q : TextKey) → length es ≡ 0 → lookup (is_at (by_key q)) es ≡ None
nothing_found es q h = ap (lookup (is_at (by_key q))) (nil_from_length es h)

-- the key of a text that came
key_of : (e : Event) (ks : List TextKey) → 0 < tally (same_event e) (map keyed ks) → (k : TextKey) × (keyed k ≡ e)
key_of e [] h = absurd (omega (arith, h))
key_of e (k ∷ ks) h =
    ⊎_elim
    (λ t. (k, sym ((events_decide e (keyed k)).0 t)))
    (λ t. key_of e ks (counted_rest (same_event e (keyed k)) (tally (same_event e) (map keyed ks)) t h))
    (cases_Bool (same_event e (keyed k)))

module _ (m : BTreeMap TextKey Surplus) (ks ls : List TextKey) (o : Owes m (map keyed ks) (map keyed ls)) (u : Open m) where
  settled_counts : length m.entries ≡ 0 → (e : Event) → tally (same_event e) (map keyed ks) ≡ tally (same_event e) (map keyed ls)
  settled_counts z e = here (tally (same_event e) (map keyed ks)) (tally (same_event e) (map keyed ls)) refl refl
    where
      at : (k : TextKey) → keyed k ≡ e → tally (same_event e) (map keyed ks) ≡ tally (same_event e) (map keyed ls)
      at k p =
          let w = o k in
          let n = nothing_found m.entries k z in
          let r = ap right_of n in
          let l = ap left_of n in
          subst (λ x. tally (same_event x) (map keyed ks) ≡ tally (same_event x) (map keyed ls)) p (omega (arith, w, r, l))

      here : (a b : ℕ) → tally (same_event e) (map keyed ks) ≡ a → tally (same_event e) (map keyed ls) ≡ b → tally (same_event e) (map keyed ks) ≡ tally (same_event e) (map keyed ls)
      here zero zero p q = p ∙ sym q
      here zero (suc b) p q = let k = key_of e ls (omega (arith, q)) in at k.0 k.1
      here (suc a) b p q = let k = key_of e ks (omega (arith, p)) in at k.0 k.1

  pub settled : length m.entries ≡ 0 → Shuffle (map keyed ks) (map keyed ls)
  settled z = counts_shuffle same_event events_decide (map keyed ks) (map keyed ls) (settled_counts z)

  pub all_settled : Shuffle (map keyed ks) (map keyed ls) → length m.entries ≡ 0
  all_settled s = no_entries m.entries (λ q. none_open (get by_key m q) (u q) (let w = o q in let t = same-tally (same_event (keyed q)) s in omega (arith, w, t)))

-- the first n of two runs, all texts
module _ (m : BTreeMap TextKey Surplus) (ks ls : List Call) (n : ℕ) (t : Texts (take n (map said ks))) (t' : Texts (take n (map said ls))) (o : Owes m (take n (map said ks)) (take n (map said ls))) (u : Open m) where
  ours : map keyed (filter_map text_key (take n ks)) ≡ take n (map said ks)
  ours = keys_of_texts (take n ks) (subst Texts (take-map said n ks) t) ∙ sym (take-map said n ks)

  theirs : map keyed (filter_map text_key (take n ls)) ≡ take n (map said ls)
  theirs = keys_of_texts (take n ls) (subst Texts (take-map said n ls) t') ∙ sym (take-map said n ls)

  owes : Owes m (map keyed (filter_map text_key (take n ks))) (map keyed (filter_map text_key (take n ls)))
  owes = subst₂ (Owes m) (sym ours) (sym theirs) o

  pub settled_at : length m.entries ≡ 0 → Shuffle (take n (map said ks)) (take n (map said ls))
  settled_at z = subst₂ Shuffle ours theirs (settled m (filter_map text_key (take n ks)) (filter_map text_key (take n ls)) owes u z)

  pub all_settled_at : Shuffle (take n (map said ks)) (take n (map said ls)) → length m.entries ≡ 0
  all_settled_at s = all_settled m (filter_map text_key (take n ks)) (filter_map text_key (take n ls)) owes u (subst₂ Shuffle (sym ours) (sym theirs) s)
