use Rattle.std.proofs.Common.{Some, None, Option, ap, ◌∙◌, arith}
use Rattle.std.specs.BTreeMap.{get}
use Rattle.std.specs.Option.{unwrap_or}
use Rattle.compare.specs.Asked.{by_key}
use Rattle.compare.specs.declared.account.Surplus.{Surplus}
use Rattle.compare.proofs.Accounting.{entered, still_open, still_bounded, written_over, even, before_is}
use Rattle.compare.proofs.account.enter.Goals as goal

pub overflow_add-surplus : goal.overflow_add-surplus
overflow_add-surplus c =
    let b = before_is (get by_key c.args.unsettled.now c.args.key) c.unwrap_or-before.result (c.unwrap_or-before.ensures ∙ ap (λ (o : Option Surplus). unwrap_or o even) c.remove.ensures.value) in
    let s = c.requires.small in
    let t = s.2 c.args.key in
    omega (arith, b.0, t.0, s.3)

pub overflow_add-surplus-2 : goal.overflow_add-surplus-2
overflow_add-surplus-2 c =
    let b = before_is (get by_key c.args.unsettled.now c.args.key) c.unwrap_or-before.result (c.unwrap_or-before.ensures ∙ ap (λ (o : Option Surplus). unwrap_or o even) c.remove.ensures.value) in
    let s = c.requires.small in
    let t = s.2 c.args.key in
    omega (arith, b.1, t.1, s.4)

pub returns-else-surplus-clause-entered : goal.returns-else-surplus-clause-entered
returns-else-surplus-clause-entered c =
    let b = before_is (get by_key c.args.unsettled.now c.args.key) c.unwrap_or-before.result (c.unwrap_or-before.ensures ∙ ap (λ (o : Option Surplus). unwrap_or o even) c.remove.ensures.value) in
    let t = c.if-surplus.false in
    entered c.args.unsettled.now c.remove.new.self c.args.key None c.remove.ensures.updates.0 c.args.more.left c.args.more.right (omega (arith, b.0, b.1, t))

pub returns-else-surplus-clause-settled : goal.returns-else-surplus-clause-settled
returns-else-surplus-clause-settled c = still_open c.args.unsettled.now c.remove.new.self c.args.key None c.remove.ensures.updates.0 c.requires.settled tt

pub returns-else-surplus-clause-small : goal.returns-else-surplus-clause-small
returns-else-surplus-clause-small c i j o = still_bounded c.args.unsettled.now c.remove.new.self c.args.key None c.remove.ensures.updates.0 i j c.args.more.left c.args.more.right o (omega arith, omega arith)

pub returns-in_ok-insert-clause-entered : goal.returns-in_ok-insert-clause-entered
returns-in_ok-insert-clause-entered c =
    let b = before_is (get by_key c.args.unsettled.now c.args.key) c.unwrap_or-before.result (c.unwrap_or-before.ensures ∙ ap (λ (o : Option Surplus). unwrap_or o even) c.remove.ensures.value) in
    let u = written_over c.args.unsettled.now c.remove.new.self c.insert.new.self c.args.key None (Some _) c.remove.ensures.updates.0 c.in_ok-insert.ensures.updates.0 in
    entered c.args.unsettled.now c.insert.new.self c.args.key (Some _) u c.args.more.left c.args.more.right (omega (arith, b.0, b.1))

pub returns-in_ok-insert-clause-settled : goal.returns-in_ok-insert-clause-settled
returns-in_ok-insert-clause-settled c =
    let u = written_over c.args.unsettled.now c.remove.new.self c.insert.new.self c.args.key None (Some _) c.remove.ensures.updates.0 c.in_ok-insert.ensures.updates.0 in
    still_open c.args.unsettled.now c.insert.new.self c.args.key (Some _) u c.requires.settled c.if-surplus.true

pub returns-in_ok-insert-clause-small : goal.returns-in_ok-insert-clause-small
returns-in_ok-insert-clause-small c i j o =
    let b = before_is (get by_key c.args.unsettled.now c.args.key) c.unwrap_or-before.result (c.unwrap_or-before.ensures ∙ ap (λ (o : Option Surplus). unwrap_or o even) c.remove.ensures.value) in
    let u = written_over c.args.unsettled.now c.remove.new.self c.insert.new.self c.args.key None (Some _) c.remove.ensures.updates.0 c.in_ok-insert.ensures.updates.0 in
    let t = o c.args.key in
    still_bounded c.args.unsettled.now c.insert.new.self c.args.key (Some _) u i j c.args.more.left c.args.more.right o (omega (arith, b.0, t.0), omega (arith, b.1, t.1))
