-- The turns of a loop that runs calls: what is left to run from here gives the whole run.
use Rattle.std.proofs.Common.{◌≡◌, ℕ, ◌+◌, ◌<◌, ◌≤◌, List, [], ◌∷◌, ◌++◌, map, length, get_or, drop, sym, ap, ◌∙◌, ap₂}
use Rattle.std.proofs.lemmas.List.{drop_more, drop_all, append_assoc, append-nil}
use Rattle.bench.specs.Runs.{last_by, out_by}

module _ {K C S A : Type 0} (f : K → C) (step : C → S → S) (out : C → S → A) (ks : List K) (i : ℕ) where
  -- after one more call, the rest still ends where the whole does
  pub last_more : (d : K) (s t z : S) → i < length ks → t ≡ step (f (get_or ks i d)) s → last_by step (map f (drop i ks)) s ≡ z → last_by step (map f (drop (i + 1) ks)) t ≡ z
  last_more d s t z h e inv =
      ap (last_by step (map f (drop (i + 1) ks))) e ∙ ap (λ l. last_by step (map f l) s) (sym (drop_more ks i d h)) ∙ inv

  -- with its answer written, the answers so far and those of the rest are still those of the whole
  pub out_more : (d : K) (s t : S) (a : A) (xs ys z : List A) → i < length ks → t ≡ step (f (get_or ks i d)) s → a ≡ out (f (get_or ks i d)) s → ys ≡ xs ++ a ∷ [] →
      xs ++ out_by step out (map f (drop i ks)) s ≡ z → ys ++ out_by step out (map f (drop (i + 1) ks)) t ≡ z
  out_more d s t a xs ys z h e r p inv =
      let rest = out_by step out (map f (drop (i + 1) ks)) in
      let c = f (get_or ks i d) in
      ap₂ (λ u v. u ++ rest v) p e
      ∙ append_assoc xs (a ∷ []) (rest (step c s))
      ∙ ap (λ u. xs ++ u ∷ rest (step c s)) r
      ∙ ap (λ l. xs ++ out_by step out (map f l) s) (sym (drop_more ks i d h))
      ∙ inv

  -- past the last call nothing is left
  pub last_end : (s z : S) → length ks ≤ i → last_by step (map f (drop i ks)) s ≡ z → s ≡ z
  last_end s z h inv = ap (λ l. last_by step (map f l) s) (sym (drop_all i ks h)) ∙ inv

  pub out_end : (s : S) (xs z : List A) → length ks ≤ i → xs ++ out_by step out (map f (drop i ks)) s ≡ z → xs ≡ z
  out_end s xs z h inv = sym (append-nil xs) ∙ ap (λ l. xs ++ out_by step out (map f l) s) (sym (drop_all i ks h)) ∙ inv
