use Rattle.std.proofs.Common.{◌^◌, ◌-◌, ◌∙◌, ap, refl, sym}
use Rattle.language.proofs.InsideTree.{inside_inline}
use Rattle.measures.specs.Measure.{capped, only_directives, together}
use Rattle.measures.specs.Walk.{noted}
use Rattle.measures.proofs.Adding.{field_waits, inline_waits, spread_added, waits_inside}
use Rattle.measures.proofs.Algebra.{at_most-twice}
use Rattle.measures.proofs.Equations.{inside_field_set}
use Rattle.measures.proofs.walk.add_selection.Goals as goal

pub returns-in_ok-push-in-Field-clause-value : goal.returns-in_ok-push-in-Field-clause-value
returns-in_ok-push-in-Field-clause-value g c =
    field_waits (2 ^ 128 - 1) (noted c.args.numbers.now c.args.table.now) c.args.selection.now c.in-Field.field c.args.level _ _ _ c.args.sum.now c.own_field.result c.joined.result
    c.in-Field.is c.in_ok-push-in-Field.ensures.items c.set_of_field.ensures c.below_field.ensures c.own_field.ensures c.joined.ensures

pub returns-in_ok-push-in-Field-clause-inside : goal.returns-in_ok-push-in-Field-clause-inside
returns-in_ok-push-in-Field-clause-inside g c =
    waits_inside _ _ _ _ _ c.in_ok-push-in-Field.ensures.items c.set_of_field.ensures (inside_field_set c.args.selection.now c.in-Field.field c.in-Field.is)

pub returns-in_ok-push-in-Field-clause-small : goal.returns-in_ok-push-in-Field-clause-small
returns-in_ok-push-in-Field-clause-small g c =
    ap capped c.joined.ensures ∙ at_most-twice (2 ^ 128 - 1) (together c.args.sum.now c.own_field.result) ∙ sym c.joined.ensures

pub returns-in-FragmentSpread-clause-value : goal.returns-in-FragmentSpread-clause-value
returns-in-FragmentSpread-clause-value g c =
    spread_added (2 ^ 128 - 1) (noted c.args.numbers.now c.args.table.now) c.args.selection.now c.in-FragmentSpread.spread c.args.level c.args.waiting.now.items c.args.sum.now c.directives_alone.result c.joined-in-FragmentSpread.result c.noted-copy.result c.at_level.result c.joined-in-FragmentSpread-2.result
    c.in-FragmentSpread.is (c.directives_alone.ensures ∙ ap only_directives c.directive_count.ensures) c.joined-in-FragmentSpread.ensures c.noted-copy.ensures c.at_level.ensures c.joined-in-FragmentSpread-2.ensures

pub returns-in-FragmentSpread-clause-small : goal.returns-in-FragmentSpread-clause-small
returns-in-FragmentSpread-clause-small g c =
    ap capped c.joined-in-FragmentSpread-2.ensures ∙ at_most-twice (2 ^ 128 - 1) (together c.joined-in-FragmentSpread.result c.at_level.result) ∙ sym c.joined-in-FragmentSpread-2.ensures

pub returns-in_ok-push-in-InlineFragment-clause-value :
    goal.returns-in_ok-push-in-InlineFragment-clause-value
returns-in_ok-push-in-InlineFragment-clause-value g c =
    inline_waits (2 ^ 128 - 1) (noted c.args.numbers.now c.args.table.now) c.args.selection.now c.in-InlineFragment.inline c.args.level _ _ _ c.args.sum.now c.directives_alone-in-InlineFragment.result c.joined-in-InlineFragment.result
    c.in-InlineFragment.is c.in_ok-push-in-InlineFragment.ensures.items c.as_slice.ensures.value refl (c.directives_alone-in-InlineFragment.ensures ∙ ap only_directives c.directive_count-in-InlineFragment.ensures) c.joined-in-InlineFragment.ensures

pub returns-in_ok-push-in-InlineFragment-clause-inside :
    goal.returns-in_ok-push-in-InlineFragment-clause-inside
returns-in_ok-push-in-InlineFragment-clause-inside g c =
    waits_inside _ _ _ _ _ c.in_ok-push-in-InlineFragment.ensures.items c.as_slice.ensures.value (inside_inline c.args.selection.now c.in-InlineFragment.inline c.in-InlineFragment.is)

pub returns-in_ok-push-in-InlineFragment-clause-small :
    goal.returns-in_ok-push-in-InlineFragment-clause-small
returns-in_ok-push-in-InlineFragment-clause-small g c =
    ap capped c.joined-in-InlineFragment.ensures ∙ at_most-twice (2 ^ 128 - 1) (together c.args.sum.now c.directives_alone-in-InlineFragment.result) ∙ sym c.joined-in-InlineFragment.ensures
