-- When two runs are alike: the same calls, where only blocks may differ, and stretches of accepted texts may come in another order.
use Rattle.std.specs.Prelude.{◌≡◌, ℕ, Bool, true, false, cond, not, ◌&&◌, List, [], ◌∷◌, ◌++◌, map, length, replicate, None, Option}
use Rattle.std.specs.List.{AllByRecursion}
use Rattle.ordering.specs.Shuffle.{Shuffle}
use Rattle.telegram.specs.declared.modes.Mode.TheVariants.{SystemFailure}
use Rattle.cab_unit.specs.Events.{Event, Event.cycle, Event.order, Event.press, Event.take, is_cycle, is_text}
use Rattle.driver_desk.specs.Answers.{is_accepted}
use Rattle.driver_desk.specs.Numbers.{is_mode}
use Rattle.driver_desk.specs.declared.answer.Answer.{Answer}

-- a call, the answer that came, and the speed that the unit's end then has
pub record Told : Type 0 where
  pub call : Event
  pub answer : Answer
  pub speed : Option ℕ

-- a run as it is told, place by place
abbrev pub told : List Event → List Answer → List (Option ℕ) → List Told
told [] as' vs = []
told (e ∷ es) [] vs = []
told (e ∷ es) (a ∷ as') [] = []
told (e ∷ es) (a ∷ as') (v ∷ vs) = record { call = e; answer = a; speed = v } ∷ told es as' vs

-- a block is given to the end at an accepted cycle, but not where that enters System Failure
abbrev pub speed_after : (List ℕ → Option ℕ) → Event → Answer → Option ℕ → Option ℕ
speed_after reads (cycle block) a speed = cond (is_accepted a && not (is_mode a.mode SystemFailure)) (reads block) speed
speed_after reads (order o) a speed = speed
speed_after reads (press n) a speed = speed
speed_after reads (take t) a speed = speed

-- the speeds that an end with this reading has after each call, by the blocks that it was given
abbrev pub speeds_read : (List ℕ → Option ℕ) → Option ℕ → List Event → List Answer → List (Option ℕ)
speeds_read reads speed [] as' = []
speeds_read reads speed (e ∷ es) [] = []
speeds_read reads speed (e ∷ es) (a ∷ as') = speed_after reads e a speed ∷ speeds_read reads (speed_after reads e a speed) es as'

-- each is a text order that was accepted
abbrev pub AcceptedTexts : List Told → Type 0
AcceptedTexts xs = AllByRecursion (λ x. (is_text x.call ≡ true) × (x.answer.outcome ≡ None)) xs

abbrev pub calls_of : List Told → List Event
calls_of xs = map (λ (x : Told). x.call) xs

-- two runs are alike, call by call or by a stretch of texts
pub data Alike : List Told → List Told → Type 0 where
  ended : Alike [] []
  cycles : {x y : Told} {xs ys : List Told} → is_cycle x.call ≡ true → is_cycle y.call ≡ true → x.speed ≡ y.speed → Alike xs ys → Alike (x ∷ xs) (y ∷ ys)
  other : {x y : Told} {xs ys : List Told} → is_cycle x.call ≡ false → x.call ≡ y.call → Alike xs ys → Alike (x ∷ xs) (y ∷ ys)
  texts : (ps qs : List Told) {xs ys : List Told} → AcceptedTexts ps → AcceptedTexts qs → Shuffle (calls_of ps) (calls_of qs) → Alike xs ys → Alike (ps ++ xs) (qs ++ ys)

-- outside the stretches of texts the answers are equal
abbrev pub AnswersAgree : {xs ys : List Told} → Alike xs ys → Type 0
AnswersAgree ended = Unit {0}
AnswersAgree (cycles {x} {y} p q v k) = (x.answer ≡ y.answer) × AnswersAgree k
AnswersAgree (other {x} {y} p q k) = (x.answer ≡ y.answer) × AnswersAgree k
AnswersAgree (texts ps qs p q w k) = AnswersAgree k

-- the places whose answers are left open: those in the stretches of texts
abbrev pub left_open : {xs ys : List Told} → Alike xs ys → List Bool
left_open ended = []
left_open (cycles p q v k) = false ∷ left_open k
left_open (other p q k) = false ∷ left_open k
left_open (texts ps qs p q w k) = replicate (length ps) true ++ left_open k
