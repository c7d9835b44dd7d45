use Rattle.std.proofs.Common.{reverse, option_copied, refl}
use Rattle.std.proofs.lemmas.Result.{on_ok_weaker}
use Rattle.merge_set_table.specs.Known.{known_rank}
use Rattle.merge_set_table.proofs.Becoming.{at_once, as_spread, becomes_as}
use Rattle.merge_set_table.proofs.adding.add_member.Goals as goal

pub returns-in-Field : goal.returns-in-Field
returns-in-Field g c =
    on_ok_weaker c.add_field.result
    (becomes_as c.args.schema.now (known_rank c.args.fragments.now) c.args.role (option_copied c.args.parent) c.args.selection.now _
    (reverse c.add_field.new.tasks.items) (reverse c.args.tasks.now.items) c.args.part.now c.add_field.new.part c.args.table.now c.add_field.new.table c.in-Field.is)
    c.add_field.ensures

pub returns-in-FragmentSpread : goal.returns-in-FragmentSpread
returns-in-FragmentSpread g c =
    on_ok_weaker c.add_spread.result
    (λ h. becomes_as c.args.schema.now (known_rank c.args.fragments.now) c.args.role (option_copied c.args.parent) c.args.selection.now _
    (reverse c.args.tasks.now.items) (reverse c.args.tasks.now.items) c.args.part.now c.add_spread.new.part c.args.table.now c.args.table.now c.in-FragmentSpread.is
    (at_once c.args.schema.now (known_rank c.args.fragments.now) (reverse c.args.tasks.now.items) c.add_spread.new.part c.args.table.now _
    (as_spread c.args.schema.now (known_rank c.args.fragments.now) c.args.role (option_copied c.args.parent) c.in-FragmentSpread.spread _ c.args.part.now c.add_spread.new.part c.args.table.now refl h)))
    c.add_spread.ensures

pub returns-in-InlineFragment : goal.returns-in-InlineFragment
returns-in-InlineFragment g c =
    on_ok_weaker c.add_inline.result
    (becomes_as c.args.schema.now (known_rank c.args.fragments.now) c.args.role (option_copied c.args.parent) c.args.selection.now _
    (reverse c.add_inline.new.tasks.items) (reverse c.args.tasks.now.items) c.args.part.now c.add_inline.new.part c.args.table.now c.add_inline.new.table c.in-InlineFragment.is)
    c.add_inline.ensures
