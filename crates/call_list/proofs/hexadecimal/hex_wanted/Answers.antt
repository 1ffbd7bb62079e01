use Rattle.std.proofs.Common.{◌≡◌, List, ℕ, false, Some, None, Option, is_some, sym, refl, ◌∙◌, rules}
use Rattle.std.proofs.lemmas.Bool.{true≢false}
use Rattle.call_list.specs.Hex.{hex_bytes}
use Rattle.call_list.proofs.hexadecimal.hex_wanted.Goals as goal

is_none : (o : Option (List ℕ)) → is_some o ≡ false → o ≡ None
is_none (Some bytes) h = absurd (true≢false h)
is_none None h = refl

pub returns-else-names_bytes : goal.returns-else-names_bytes
returns-else-names_bytes c =
    let none : hex_bytes c.args.word.now ≡ None = is_none (hex_bytes c.args.word.now) (sym c.names_bytes.ensures ∙ c.if-names_bytes.false) in
    search (rules, none)
