use Rattle.std.proofs.Common.{codes, sym, ap, arith}
use Rattle.std.proofs.lemmas.Slice.Eq.{text_from_reads}
use Rattle.call_list.specs.Lines.{verb_of}
use Rattle.call_list.proofs.line.verb_of.Goals as goal

pub returns-in-telegram : goal.returns-in-telegram
returns-in-telegram c = ap verb_of (sym (text_from_reads c.args.word.now (codes "telegram") (omega arith) (omega arith, (omega arith, (omega arith, (omega arith, (omega arith, (omega arith, (omega arith, (omega arith, tt))))))))))

pub returns-in-record : goal.returns-in-record
returns-in-record c = ap verb_of (sym (text_from_reads c.args.word.now (codes "record") (omega arith) (omega arith, (omega arith, (omega arith, (omega arith, (omega arith, (omega arith, tt))))))))
