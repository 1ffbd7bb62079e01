-- The lines of a message window: their order, and lines by their number.
use Rattle.std.specs.Prelude.{◌≢◌, ℕ, Bool, not, ◌&&◌, ◌||◌, List, filter, AllPairs, ◌==◌, nat_lt}
use Rattle.std.specs.List.{list_any}
use Rattle.window.specs.declared.line.Line.{Line}

-- The larger cycle is first; in one cycle, the smaller number.
abbrev pub newer : Line → Line → Bool
newer x y = nat_lt y.cycle x.cycle || (x.cycle == y.cycle && nat_lt x.number y.number)

-- One cycle and one number: the same in the order.
abbrev pub level : Line → Line → Bool
level x y = x.cycle == y.cycle && x.number == y.number

-- Some line has the number.
abbrev pub has : ℕ → List Line → Bool
has n xs = list_any (λ line. line.number == n) xs

-- The lines that have another number, in their order.
abbrev pub removed : ℕ → List Line → List Line
removed n xs = filter (λ line. not (line.number == n)) xs

-- No number is there twice.
abbrev pub NumbersDiffer : List Line → Type 0
NumbersDiffer xs = AllPairs (λ x y. x.number ≢ y.number) xs
