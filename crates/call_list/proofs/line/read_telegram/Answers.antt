use Rattle.std.proofs.Common.{◌≡◌, true, is_some, List, ℕ, Some, None, Option, Ok, IsOk, refl, rules}
use Rattle.std.specs.Option.{ok_or}
use Rattle.std.proofs.lemmas.Bool.{false≢true}
use Rattle.call_list.specs.Faults.{then, barring}
use Rattle.call_list.specs.Hex.{hex_bytes}
use Rattle.call_list.specs.Lines.{telegram, telegram_line}
use Rattle.call_list.specs.Words.{word_of, count_fault}
use Rattle.call_list.specs.declared.entry.Wrong.{Wrong}
use Rattle.call_list.specs.declared.entry.Wrong.TheVariants.{NotHexadecimal}
use Rattle.call_list.proofs.line.read_telegram.Goals as goal

-- one word that names bytes is a telegram
is_telegram : (fault : Option Wrong) (bytes : Option (List ℕ)) → fault ≡ None → is_some bytes ≡ true → IsOk (barring fault (then (ok_or bytes NotHexadecimal) (λ b. Ok (telegram b))))
is_telegram None (Some bytes) e h = refl
is_telegram None None e h = absurd (false≢true h)
is_telegram (Some w) bytes e h = cc e

pub returns-in_err-decode : goal.returns-in_err-decode
returns-in_err-decode c =
    let k : IsOk (telegram_line c.args.rest.now) = is_telegram (count_fault 1 c.args.rest.now) (hex_bytes (word_of c.args.rest.now)) (search rules) (search rules) in
    search (rules, k)
