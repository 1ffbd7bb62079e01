-- When two lists of calls, with their answers, are the same up to blocks and the order of neighbouring accepted texts,
-- and which calls lie in a stretch that came in another order.
use Rattle.std.specs.Prelude.{◌≡◌, ℕ, suc, ◌<◌, ◌≤◌, min, Bool, true, false, ◌&&◌, List, [], ◌∷◌, ◌++◌, length, take, drop, None, ◌≢◌}
use Rattle.std.specs.List.{AllByRecursion}
use Rattle.cab_unit.specs.Events.{Event}
use Rattle.driver_desk.specs.declared.answer.Answer.{Answer}
use Rattle.compare.specs.Marks.{marks_of}
use Rattle.compare.specs.declared.marks.Mark.{Mark}
use Rattle.compare.specs.declared.marks.Stretch.{Stretch}
use Rattle.compare.specs.declared.marks.Stretch.TheVariants.{Same, Reordered, Other}
use Rattle.driver_desk.specs.Answers.{is_accepted}
use Rattle.cab_unit.specs.Events.{is_text, unblocked}
use Rattle.ordering.specs.Shuffle.{Shuffle}

abbrev pub Texts : List Event → Type 0
Texts es = AllByRecursion (λ e. is_text e ≡ true) es

abbrev pub Accepted : List Answer → Type 0
Accepted as' = AllByRecursion (λ a. a.outcome ≡ None) as'

-- the run goes on with a text that was accepted
abbrev pub text_next : List Event → List Answer → Bool
text_next [] as' = false
text_next (e ∷ es) [] = false
text_next (e ∷ es) (a ∷ as') = is_text e && is_accepted a

-- whether stretches that compare so are alike, and whether they are marked
abbrev pub is_alike : Stretch → Bool
is_alike Same = true
is_alike Reordered = true
is_alike Other = false

abbrev pub is_reordered : Stretch → Bool
is_reordered Same = false
is_reordered Reordered = true
is_reordered Other = false

abbrev pub Within : ℕ → List Event → List Answer → List Event → List Answer → Type 0
Within k es as' fs bs = (k ≤ length es) × (k ≤ length as') × (k ≤ length fs) × (k ≤ length bs)

-- the first k calls of both are texts that were accepted
abbrev pub Loose : ℕ → List Event → List Answer → List Event → List Answer → Type 0
Loose k es as' fs bs = Within k es as' fs bs × Texts (take k es) × Accepted (take k as') × Texts (take k fs) × Accepted (take k bs)

-- at no place before the k-th the same texts came so far
abbrev pub Apart : ℕ → List Event → List Event → Type 0
Apart k es fs = (j : ℕ) → 0 < j → j < k → Shuffle (take j es) (take j fs) → ⊥

-- the first calls of two lists: one call of each, the shortest stretch of accepted texts in which the same texts came,
-- or, where there is none, all accepted texts that both begin with.
-- Whether they are alike, whether they are marked, and how many they are
pub data Front : Bool → Bool → ℕ → List Event → List Answer → List Event → List Answer → Type 0 where
  same : {e f : Event} {es fs : List Event} {a b : Answer} {as' bs : List Answer} → unblocked e ≡ unblocked f → Front true false 1 (e ∷ es) (a ∷ as') (f ∷ fs) (b ∷ bs)
  other : {e f : Event} {es fs : List Event} {a b : Answer} {as' bs : List Answer} → (unblocked e ≢ unblocked f) →
      (text_next (e ∷ es) (a ∷ as') && text_next (f ∷ fs) (b ∷ bs)) ≡ false → Front false false 1 (e ∷ es) (a ∷ as') (f ∷ fs) (b ∷ bs)
  stretch : (k : ℕ) {es fs : List Event} {as' bs : List Answer} → 1 < k → Loose k es as' fs bs → Apart k es fs → Shuffle (take k es) (take k fs) → Front true true k es as' fs bs
  apart : (k : ℕ) {es fs : List Event} {as' bs : List Answer} → 0 < k → Loose k es as' fs bs →
      (text_next (drop k es) (drop k as') && text_next (drop k fs) (drop k bs)) ≡ false → Apart (suc k) es fs → Front false false k es as' fs bs

-- the whole of two lists with as many answers, front by front
pub data Walked : Bool → List Mark → List Event → List Answer → List Event → List Answer → Type 0 where
  ended : Walked true [] [] [] [] []
  more : {t m s : Bool} {k : ℕ} {ms : List Mark} {es fs : List Event} {as' bs : List Answer} → Front t m k es as' fs bs →
      Walked s ms (drop k es) (drop k as') (drop k fs) (drop k bs) → Walked (t && s) (marks_of m k ++ ms) es as' fs bs

-- how far all four lists go
abbrev pub shortest : List Event → List Answer → List Event → List Answer → ℕ
shortest es as' fs bs = min (min (min (length es) (length fs)) (length as')) (length bs)

-- no list is longer than another
abbrev pub AsLong : List Event → List Answer → List Event → List Answer → Type 0
AsLong es as' fs bs = (length fs ≡ length es) × (length as' ≡ length es) × (length bs ≡ length es)

-- lists of any lengths are compared as far as all go, and are alike only where none is longer
pub data Compared : Bool → List Mark → List Event → List Answer → List Event → List Answer → Type 0 where
  whole : {s : Bool} {ms : List Mark} {es fs : List Event} {as' bs : List Answer} → AsLong es as' fs bs → Walked s ms es as' fs bs → Compared s ms es as' fs bs
  cut : (n : ℕ) {s : Bool} {ms : List Mark} {es fs : List Event} {as' bs : List Answer} → (AsLong es as' fs bs → ⊥) → n ≡ shortest es as' fs bs →
      Walked s ms (take n es) (take n as') (take n fs) (take n bs) → Compared false ms es as' fs bs
