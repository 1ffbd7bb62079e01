-- What the comparing of two runs finds: speeds, answers and messages that differ, and what the likeness of the runs leaves open.
use Rattle.std.specs.Prelude.{◌≡◌, ℕ, ◌+◌, Bool, true, false, ◌&&◌, List, [], ◌∷◌, ◌++◌, map, length, Some, None, Option, ◌≢◌}
use Rattle.cab_unit.specs.Events.{Event, is_cycle}
use Rattle.bench.specs.Likeness.{Told, calls_of, Alike, Alike.ended, Alike.cycles, Alike.other, Alike.texts}
use Rattle.messages.specs.Shown.{Display, after_call}
use Rattle.messages.specs.Stretches.{Fits, after_texts}
use Rattle.compare.specs.declared.tally.Tally.{Tally}

-- what stands at the kept places of two lists is equal
abbrev pub AgreeWhere : {X : Type 0} → List Bool → List X → List X → Type 0
AgreeWhere [] xs ys = Unit {0}
AgreeWhere (k ∷ ks) [] ys = Unit {0}
AgreeWhere (k ∷ ks) (x ∷ xs) [] = Unit {0}
AgreeWhere (k ∷ ks) (x ∷ xs) (y ∷ ys) = (k ≡ true → x ≡ y) × AgreeWhere ks xs ys

-- nothing was compared yet
abbrev pub none_compared : Tally
none_compared = record { compared = 0; differing = 0; first = None }

abbrev pub first_of : Option ℕ → ℕ → Option ℕ
first_of None place = Some place
first_of (Some p) place = Some p

-- one more was compared, and was equal, or differs
abbrev pub one_equal : Tally → Tally
one_equal t = record { compared = t.compared + 1; differing = t.differing; first = t.first }

abbrev pub one_differs : ℕ → Tally → Tally
one_differs place t = record { compared = t.compared + 1; differing = t.differing + 1; first = first_of t.first place }

-- the pair at a place is compared, where it is kept
abbrev pub tally_with : ℕ → Bool → Bool → Tally → Tally
tally_with place false equal t = t
tally_with place true true t = one_equal t
tally_with place true false t = one_differs place t

-- the tally of two lists, of which the kept places are compared
pub data Tallied {X : Type 0} : List Bool → List X → List X → Tally → Type 0 where
  nothing : Tallied [] [] [] none_compared
  left_out : (x y : X) {ks : List Bool} {xs ys : List X} {t : Tally} → Tallied ks xs ys t → Tallied (ks ++ false ∷ []) (xs ++ x ∷ []) (ys ++ y ∷ []) t
  equal : (x y : X) {ks : List Bool} {xs ys : List X} {t : Tally} → x ≡ y → Tallied ks xs ys t → Tallied (ks ++ true ∷ []) (xs ++ x ∷ []) (ys ++ y ∷ []) (one_equal t)
  differs : (x y : X) {ks : List Bool} {xs ys : List X} {t : Tally} → (x ≢ y) → Tallied ks xs ys t →
      Tallied (ks ++ true ∷ []) (xs ++ x ∷ []) (ys ++ y ∷ []) (one_differs (length xs) t)

-- the samples of speed: the places where both runs have a cycle
abbrev pub sampled : List Event → List Event → List Bool
sampled [] fs = []
sampled (e ∷ es) [] = []
sampled (e ∷ es) (f ∷ fs) = (is_cycle e && is_cycle f) ∷ sampled es fs

-- every place of the one list is one of the other
abbrev pub Covers : List Bool → List Bool → Type 0
Covers [] ps = Unit {0}
Covers (o ∷ os) [] = Unit {0}
Covers (o ∷ os) (p ∷ ps) = (o ≡ true → p ≡ true) × Covers os ps

-- every stretch fits into the window that stands before it
abbrev pub Fitting : {xs ys : List Told} → Alike xs ys → Display → Type 0
Fitting ended d = Unit {0}
Fitting (cycles {x} p q v k) d = Fitting k (after_call x.call x.answer d)
Fitting (other {x} p q k) d = Fitting k (after_call x.call x.answer d)
Fitting (texts ps qs p q w k) d = Fits (calls_of ps) d × Fitting k (after_texts (calls_of ps) d)

-- a run as it is told, whatever its speeds
abbrev pub unspeeded : List Told → List Told
unspeeded xs = map (λ (x : Told). record { call = x.call; answer = x.answer; speed = None }) xs
