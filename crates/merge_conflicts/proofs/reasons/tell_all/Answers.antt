use Rattle.std.proofs.Common.{map, rules, reverse}
use Rattle.merge_field_pairs.specs.Entries.{plain}
use Rattle.merge_conflicts.proofs.Leading.{taken, none_left}
use Rattle.merge_conflicts.proofs.reasons.tell_all.Goals as goal

pub loop-init : goal.loop-init
loop-init g c = λ end m. m

pub loop-preserved : goal.loop-preserved
loop-preserved g c =
    taken g.S.PartialEq.eq c.args.schema.now (map plain c.args.fields.now) c.loop.tasks.items _ c.step.new.tasks.items (reverse c.args.tasks.now.items) c.in-Some.task c.step.new.account c.loop.account c.args.account.now
    c.in-Some.ensures.items c.loop.invariant c.in_ok-step.ensures

pub returns-in_default : goal.returns-in_default
returns-in_default g c =
    none_left g.S.PartialEq.eq c.args.schema.now (map plain c.args.fields.now) c.loop.tasks.items (reverse c.args.tasks.now.items) _ c.args.account.now (search rules) c.loop.invariant
