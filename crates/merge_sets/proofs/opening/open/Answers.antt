use Rattle.std.proofs.Common.{refl}
use Rattle.merge_sets.specs.declared.opening.Opening.{Opening}
use Rattle.merge_sets.proofs.Opened.{gains_new, gains_old, flag_new, flag_old}
use Rattle.merge_sets.proofs.opening.open.Goals as goal

pub returns-in_ok-push-2 : goal.returns-in_ok-push-2
returns-in_ok-push-2 c =
    let new : Opening = record { seen = c.insert.new.self; order = c.push.new.self; waiting = c.push-then-branch.new.self } in
    gains_new c.args.f c.args.opening.now new (c.in_ok-insert.ensures.there, c.in_ok-insert.ensures.others) (flag_new c.in_ok-insert.field-0 _ c.in_ok-insert.ensures.fresh c.if-branch.true) c.in_ok-push.ensures.items c.in_ok-push-2.ensures.items

pub returns-else-branch : goal.returns-else-branch
returns-else-branch c =
    let new : Opening = record { seen = c.insert.new.self; order = c.args.opening.now.order; waiting = c.args.opening.now.waiting } in
    gains_old c.args.f c.args.opening.now new (c.in_ok-insert.ensures.there, c.in_ok-insert.ensures.others) (flag_old c.in_ok-insert.field-0 _ c.in_ok-insert.ensures.fresh c.if-branch.false) refl refl
