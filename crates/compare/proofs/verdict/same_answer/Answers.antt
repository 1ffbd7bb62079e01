use Rattle.std.proofs.Common.{◌≡◌, Bool, Decides, sym, subst}
use Rattle.compare.proofs.Equal.{answers_decide}
use Rattle.compare.proofs.verdict.same_answer.Goals as goal

pub returns : goal.returns
returns c = subst (λ (b : Bool). Decides b (c.args.one.now ≡ c.args.other.now)) (sym c.eq.ensures) (answers_decide _ _)
