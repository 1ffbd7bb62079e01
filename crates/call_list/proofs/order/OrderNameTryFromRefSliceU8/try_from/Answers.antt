use Rattle.std.proofs.Common.{codes, sym, ap, arith}
use Rattle.std.proofs.lemmas.Slice.Eq.{text_from_reads}
use Rattle.call_list.specs.Orders.{name_of}
use Rattle.call_list.proofs.order.OrderNameTryFromRefSliceU8.try_from.Goals as goal

pub returns-in-authority : goal.returns-in-authority
returns-in-authority c = ap name_of (sym (text_from_reads c.args.word.now (codes "authority") (omega arith) (omega arith, (omega arith, (omega arith, (omega arith, (omega arith, (omega arith, (omega arith, (omega arith, (omega arith, tt)))))))))))

pub returns-in-withdraw : goal.returns-in-withdraw
returns-in-withdraw c = ap name_of (sym (text_from_reads c.args.word.now (codes "withdraw") (omega arith) (omega arith, (omega arith, (omega arith, (omega arith, (omega arith, (omega arith, (omega arith, (omega arith, tt))))))))))

pub returns-in-permission : goal.returns-in-permission
returns-in-permission c = ap name_of (sym (text_from_reads c.args.word.now (codes "permission") (omega arith) (omega arith, (omega arith, (omega arith, (omega arith, (omega arith, (omega arith, (omega arith, (omega arith, (omega arith, (omega arith, tt))))))))))))
