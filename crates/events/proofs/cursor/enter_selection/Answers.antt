use Rattle.std.proofs.lemmas.Result.{on_ok_weaker}
use Rattle.language.specs.declared.tree.Selection.TheVariants as selection
use Rattle.events.proofs.SelectionOutlines.{of_field, of_spread, of_inline}
use Rattle.events.proofs.cursor.enter_selection.Goals as goal

pub returns-in-Field : goal.returns-in-Field
returns-in-Field g c =
    rw c.in-Field.is (rw (selection.outs-Field, of_field) c.enter_field.ensures)

pub returns-in-FragmentSpread : goal.returns-in-FragmentSpread
returns-in-FragmentSpread g c =
    on_ok_weaker c.enter_spread.result
    (λ h. rw c.in-FragmentSpread.is (rw (selection.outs-FragmentSpread, of_spread) (h c.args.schema.now)))
    c.enter_spread.ensures

pub returns-in-InlineFragment : goal.returns-in-InlineFragment
returns-in-InlineFragment g c =
    rw c.in-InlineFragment.is (rw (selection.outs-InlineFragment, of_inline) c.enter_inline.ensures)
