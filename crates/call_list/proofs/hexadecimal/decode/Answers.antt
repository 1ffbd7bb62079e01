use Rattle.std.proofs.Common.{rules}
use Rattle.call_list.proofs.Pairs.{decoded}
use Rattle.call_list.proofs.hexadecimal.decode.Goals as goal

pub returns : goal.returns
returns c = search (rules, decoded)
