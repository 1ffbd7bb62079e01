use Rattle.std.proofs.Common.{None, ap, ◌∙◌, rules}
use Rattle.cab_unit.specs.View.{done}
use Rattle.driver_desk.specs.declared.request.Class.TheVariants as class
use Rattle.cab_unit.proofs.Alone.{one-waits}
use Rattle.cab_unit.proofs.cab.Cab.withdraw_text.Goals as goal

pub returns : goal.returns
returns g c =
    let w = c.args.self.now.waiting in
    record {
      state = search rules;
      done = c.withdrawing.ensures ∙ ap (done None None) (c.withdraw_text.ensures.number ∙ one-waits class.Text c.args.number _ w.single c.requires);
    }
