use Rattle.std.proofs.Common.{codes, sym, ap, arith}
use Rattle.std.proofs.lemmas.Slice.Eq.{text_from_reads}
use Rattle.call_list.specs.Orders.{wanted_of}
use Rattle.call_list.proofs.order.wanted_of.Goals as goal

pub returns-in-wanted : goal.returns-in-wanted
returns-in-wanted c = ap wanted_of (sym (text_from_reads c.args.word.now (codes "wanted") (omega arith) (omega arith, (omega arith, (omega arith, (omega arith, (omega arith, (omega arith, tt))))))))
