use Rattle.std.proofs.Common.{option_copied, rules}
use Rattle.merge_set_table.specs.declared.tasks.Role.TheVariants.{Searched}
use Rattle.merge_set_table.specs.Known.{known_rank}
use Rattle.merge_set_table.proofs.Becoming.{pushed_first, started, finished, nearer}
use Rattle.merge_set_table.proofs.adding.add_selections.Goals as goal

pub loop-init : goal.loop-init
loop-init g c = started c.args.schema.now (known_rank c.args.fragments.now) _ _ c.args.part.now c.args.table.now (pushed_first _ _ _ c.in_ok-push.ensures.items c.new-tasks.ensures.items)

pub returns-in_default : goal.returns-in_default
returns-in_default g c =
    finished c.args.schema.now (known_rank c.args.fragments.now) Searched (option_copied c.args.parent) c.args.set.now c.args.part.now c.args.table.now
    c.loop.tasks.items c.loop.part c.loop.table (search rules) c.loop.invariant

pub loop-preserved : goal.loop-preserved
loop-preserved g c =
    nearer c.args.schema.now (known_rank c.args.fragments.now) Searched (option_copied c.args.parent) c.args.set.now c.args.part.now c.args.table.now
    c.loop.tasks.items _ c.step.new.tasks.items c.in-Some.task c.loop.part c.step.new.part c.loop.table c.step.new.table
    c.in-Some.ensures.items c.loop.invariant c.in_ok-step.ensures
