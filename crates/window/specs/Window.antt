-- What the calls of a message window answer and leave.
use Rattle.std.specs.Prelude.{ℕ, ◌+◌, cond, List, ◌∷◌, length, take, drop, is_ok, Ok, Err, Result, nat_le, nat_lt, slice_get}
use Rattle.std.specs.Option.{option_map_or}
use Rattle.std.specs.Borrow.{Bor}
use Rattle.ordering.specs.Shelf.{items, places}
use Rattle.window.specs.declared.Window.{Window}
use Rattle.window.specs.declared.line.Line.{Line}
use Rattle.window.specs.declared.refusal.Refusal.{Refusal}
use Rattle.window.specs.declared.refusal.Refusal.TheVariants.{NoFreeLine, NumberThere, NoSuchLine, OutsideStore}
use Rattle.window.specs.Lines.{has}

-- The lines of the window, front to back.
abbrev pub lines : Window → List Line
lines w = items w.shelf

-- How many lines the window has room for.
abbrev pub rows : Window → ℕ
rows w = places w.shelf

-- What `add` answers where there is room for so many lines, and these are there.
abbrev pub add_answer : ℕ → List Line → Line → Result (Unit {0}) Refusal
add_answer room xs line = cond (has line.number xs) (Err NumberThere) (cond (nat_lt (length xs) room) (Ok tt) (Err NoFreeLine))

-- The lines after `add`.
abbrev pub added : ℕ → List Line → Line → List Line
added room xs line = cond (is_ok (add_answer room xs line)) (line ∷ xs) xs

-- What `remove` answers.
abbrev pub remove_answer : List Line → ℕ → Result (Unit {0}) Refusal
remove_answer xs n = cond (has n xs) (Ok tt) (Err NoSuchLine)

-- The part of the store that a line shows.
abbrev pub part_of : Line → List ℕ → Result (List ℕ) Refusal
part_of line store = cond (nat_le (line.place + line.length) (length store)) (Ok (take line.length (drop line.place store))) (Err OutsideStore)

-- What `show` answers at a position.
abbrev pub shown : List Line → ℕ → List ℕ → Result (List ℕ) Refusal
shown xs k store = option_map_or (λ line. part_of line store) (slice_get xs k) (Err NoSuchLine)

-- An answer with the bytes that its reference points to.
abbrev pub handed : Result (Bor (List ℕ)) Refusal → Result (List ℕ) Refusal
handed (Ok part) = Ok part.now
handed (Err why) = Err why
