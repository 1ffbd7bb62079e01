use Rattle.std.proofs.Common.{◌≡◌, false, is_some, rules, arith}
use Rattle.std.specs.List.{list_all}
use Rattle.hex.specs.Hex.{is_hex_digit}
use Rattle.call_list.specs.Hex.{pairs}
use Rattle.call_list.proofs.Pairs.{even_pairs, no_odd_pairs}
use Rattle.call_list.proofs.hexadecimal.names_bytes.Goals as goal

pub returns-then-word-eq0 : goal.returns-then-word-eq0
returns-then-word-eq0 c =
    let digits : is_some (pairs c.args.word.now) ≡ list_all is_hex_digit c.args.word.now = even_pairs c.args.word.now (omega arith) in
    search (rules, digits)

pub returns-else-word-eq0 : goal.returns-else-word-eq0
returns-else-word-eq0 c =
    let none : is_some (pairs c.args.word.now) ≡ false = no_odd_pairs c.args.word.now (omega arith) in
    search (rules, none)
