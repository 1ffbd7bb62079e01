use Rattle.std.proofs.Common.{◌≡◌, false, None, Some, sym, ap, ◌∙◌, arith}
use Rattle.std.proofs.lemmas.Bool.{cond-true}
use Rattle.std.proofs.lemmas.Grind.{common_steps}
use Rattle.window.specs.Lines.{has}
use Rattle.window.specs.Window.{lines}
use Rattle.window.proofs.Numbers.{not_there, removed-none, removed-gone, differ_taken, taken}
use Rattle.window.proofs.Window.remove.Goals as goal

pub returns-in_err-place-clause-gone : goal.returns-in_err-place-clause-gone
returns-in_err-place-clause-gone c =
    let none : c.place_of.result ≡ None = grind arith in
    not_there c.args.number (lines c.args.self.now) (sym (simp c.lines.ensures at c.place_of.ensures) ∙ none)

pub returns-in_err-place-clause-answer : goal.returns-in_err-place-clause-answer
returns-in_err-place-clause-answer c =
    let gone : has c.args.number (lines c.args.self.now) ≡ false = returns-in_err-place-clause-gone c in
    grind (arith, common_steps)

pub returns-in_err-place-clause-after : goal.returns-in_err-place-clause-after
returns-in_err-place-clause-after c = sym (removed-none c.args.number (lines c.args.self.now) (returns-in_err-place-clause-gone c))

pub invariant_of-self : goal.invariant_of-self
invariant_of-self c =
    let w = c.args.self.now in
    record { distinct = differ_taken w.shelf c.take_out.new.self c.in_ok-place.place c.take_out.result c.take_out.ensures.cases w.distinct }

pub returns-clause-answer : goal.returns-clause-answer
returns-clause-answer c =
    let w = c.args.self.now in
    let found : c.place_of.result ≡ Some c.in_ok-place.place = grind arith in
    let t = taken w.shelf c.take_out.new.self c.args.number c.in_ok-place.place c.in_ok-take_out.field-0 (sym (simp c.lines.ensures at c.place_of.ensures) ∙ found) c.in_ok-take_out.ensures.cases w.distinct in
    sym (cond-true _ _ _ t.0)

pub returns-clause-after : goal.returns-clause-after
returns-clause-after c =
    let w = c.args.self.now in
    let found : c.place_of.result ≡ Some c.in_ok-place.place = grind arith in
    let t = taken w.shelf c.take_out.new.self c.args.number c.in_ok-place.place c.in_ok-take_out.field-0 (sym (simp c.lines.ensures at c.place_of.ensures) ∙ found) c.in_ok-take_out.ensures.cases w.distinct in
    t.1

pub returns-clause-gone : goal.returns-clause-gone
returns-clause-gone c = ap (λ xs. has c.args.number xs) (returns-clause-after c) ∙ removed-gone c.args.number (lines c.args.self.now)
