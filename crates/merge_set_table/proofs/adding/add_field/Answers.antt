use Rattle.std.proofs.Common.{reverse, option_copied, sym, subst}
use Rattle.std.proofs.lemmas.Result.{on_ok_weaker}
use Rattle.merge_set_table.specs.Known.{known_rank}
use Rattle.merge_set_table.specs.Adding.{IsEmptySet}
use Rattle.merge_set_table.proofs.Becoming.{two_pushed, at_once, as_leaf, field_begun}
use Rattle.merge_set_table.proofs.adding.add_field.Goals as goal

pub returns-in_default : goal.returns-in_default
returns-in_default g c =
    on_ok_weaker c.push_field.result
    (λ h. at_once c.args.schema.now (known_rank c.args.fragments.now) (reverse c.args.tasks.now.items) c.push_field.new.part c.push_field.new.table _
    (as_leaf c.args.schema.now (known_rank c.args.fragments.now) c.args.role (option_copied c.args.parent) c.args.field.now _ c.args.part.now c.push_field.new.part c.args.table.now c.push_field.new.table
    c.entry_of_field-entry.ensures c.in_default.is h))
    c.push_field.ensures

pub returns : goal.returns
returns g c =
    field_begun c.args.schema.now (known_rank c.args.fragments.now) (option_copied c.args.parent) c.args.field.now c.in-Some.selections _ _
    (reverse c.push-2.new.self.items) (reverse c.args.tasks.now.items) c.args.part.now c.replace-outer.new.dest c.args.table.now c.place_for.new.table
    c.replace-outer.ensures.value c.entry_of_field-entry.ensures c.in-Some.is c.type_below_field-parent.ensures c.as_slice-set.ensures.value
    c.in_ok-place.ensures (subst IsEmptySet (sym c.replace-outer.ensures.after) c.in_ok-inner.ensures)
    (two_pushed c.args.tasks.now.items _ _ _ _ c.in_ok-push.ensures.items c.in_ok-push-2.ensures.items)
