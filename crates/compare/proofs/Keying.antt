-- The order in which texts are put, and the texts that came whatever their order.
use Rattle.std.proofs.Common.{◌≡◌, Bool, true, false, List, [], ◌∷◌, map, is_some, IfSome, refl, ap, ◌∙◌, ap₂}
use Rattle.std.specs.Cmp.{IsTotalOrder, tied_then, unsigned_ties, unsigned_Decides, bool_cmp_total}
use Rattle.std.specs.Cmp.Lexicographic.{slice_cmp, texts_ties, bytes_decides}
use Rattle.std.specs.Ordering.{is_eq, ordering_then, nat_cmp, bool_cmp}
use Rattle.std.specs.List.{filter_map}
use Rattle.std.proofs.lemmas.Cmp.{on_total, then_total, nat_cmp_total, nat_list_cmp_total}
use Rattle.std.proofs.lemmas.Bool.{false≢true, and_parts}
use Rattle.telegram.specs.Format.{OrderValue.text}
use Rattle.telegram.specs.declared.orders.Order.TheVariants.{Authority, Level, Text, TextWithdrawal, EmergencyStop, Sign, Permission}
use Rattle.cab_unit.specs.declared.call.Call.{Call}
use Rattle.cab_unit.specs.declared.call.Call.TheVariants.{Cycle, Order, Press, Take}
use Rattle.cab_unit.specs.Events.{Event, Event.order, said}
use Rattle.compare.specs.Asked.{Words, by_words, keyed, text_key}
use Rattle.compare.specs.Walked.{Texts}
use Rattle.cab_unit.specs.Events.{is_text}

pub by_words_total : IsTotalOrder by_words
by_words_total =
    then_total
    (on_total (λ (w : Words). w.0) nat_cmp_total)
    (then_total (on_total (λ (w : Words). w.1.0) bool_cmp_total) (on_total (λ (w : Words). w.1.1) nat_list_cmp_total))

bool_tied : (x y : Bool) → is_eq (bool_cmp x y) ≡ true → x ≡ y
bool_tied true true e = refl
bool_tied true false e = absurd (false≢true e)
bool_tied false true e = absurd (false≢true e)
bool_tied false false e = refl

pub words_equal : (x y : Words) → is_eq (by_words x y) ≡ true → x ≡ y
words_equal x y e =
    let a = and_parts _ _ (tied_then (nat_cmp x.0 y.0) (ordering_then (bool_cmp x.1.0 y.1.0) (slice_cmp nat_cmp x.1.1 y.1.1)) ∙ e) in
    let b = and_parts _ _ (tied_then (bool_cmp x.1.0 y.1.0) (slice_cmp nat_cmp x.1.1 y.1.1) ∙ a.1) in
    let number = (unsigned_Decides x.0 y.0).0 (unsigned_ties x.0 y.0 ∙ a.0) in
    let bytes = (bytes_decides x.1.1 y.1.1).0 (texts_ties x.1.1 y.1.1 ∙ b.1) in
    ap₂ (λ n p. (n, p)) number (ap₂ (λ w t. (w, t)) (bool_tied x.1.0 y.1.0 b.0) bytes)

-- the words of a text order, and the text order of words
abbrev pub words_of : Event → Words
words_of (order (text n w t)) = (n, (w, t))
words_of e = (0, (false, []))

abbrev pub saying : Words → Event
saying w = order (text w.0 w.1.0 w.1.1)

-- calls that are all texts, by their keys
pub keys_of_texts : (ks : List Call) → Texts (map said ks) → map keyed (filter_map text_key ks) ≡ map said ks
keys_of_texts [] t = refl
keys_of_texts (Order (Text n w b) ∷ ks) t = ap (λ l. said (Order (Text n w b)) ∷ l) (keys_of_texts ks t.1)
keys_of_texts (Order (Authority m) ∷ ks) t = absurd (false≢true t.0)
keys_of_texts (Order (Level l) ∷ ks) t = absurd (false≢true t.0)
keys_of_texts (Order (TextWithdrawal n) ∷ ks) t = absurd (false≢true t.0)
keys_of_texts (Order EmergencyStop ∷ ks) t = absurd (false≢true t.0)
keys_of_texts (Order Sign ∷ ks) t = absurd (false≢true t.0)
keys_of_texts (Order Permission ∷ ks) t = absurd (false≢true t.0)
keys_of_texts (Cycle b ∷ ks) t = absurd (false≢true t.0)
keys_of_texts (Press n ∷ ks) t = absurd (false≢true t.0)
keys_of_texts (Take r ∷ ks) t = absurd (false≢true t.0)

-- a text has a key, and it says that text
pub key_found : (c : Call) → is_some (text_key c) ≡ is_text (said c)
key_found (Order (Text n w b)) = refl
key_found (Order (Authority m)) = refl
key_found (Order (Level l)) = refl
key_found (Order (TextWithdrawal n)) = refl
key_found (Order EmergencyStop) = refl
key_found (Order Sign) = refl
key_found (Order Permission) = refl
key_found (Cycle b) = refl
key_found (Press n) = refl
key_found (Take r) = refl

pub key_says : (P : Event → Type 0) (c : Call) → P (said c) → IfSome (text_key c) (λ k. P (keyed k))
key_says P (Order (Text n w b)) h = h
key_says P (Order (Authority m)) h = tt
key_says P (Order (Level l)) h = tt
key_says P (Order (TextWithdrawal n)) h = tt
key_says P (Order EmergencyStop) h = tt
key_says P (Order Sign) h = tt
key_says P (Order Permission) h = tt
key_says P (Cycle b) h = tt
key_says P (Press n) h = tt
key_says P (Take r) h = tt
