use Rattle.std.proofs.Common.{ap, ◌∙◌}
use Rattle.language_types.specs.Types.{shape, borrowed_shape}
use Rattle.merge_field_pairs.specs.TypeConflict.{do_types_conflict}
use Rattle.merge_field_pairs.proofs.TypeLemmas.{types_conflict-outermost}
use Rattle.merge_field_pairs.proofs.type_conflict.are_in_conflict.Goals as goal

pub returns-clause-value : goal.returns-clause-value
returns-clause-value g c =
    c.conflict_of.ensures
    ∙ ap (λ t. do_types_conflict c.args.schema.now t (borrowed_shape c.as_borrowed-2.result)) c.as_borrowed.ensures
    ∙ ap (do_types_conflict c.args.schema.now (shape c.args.left.now)) c.as_borrowed-2.ensures

pub returns-clause-by_outermost : goal.returns-clause-by_outermost
returns-clause-by_outermost g c =
    returns-clause-value g c ∙ types_conflict-outermost c.args.schema.now (shape c.args.left.now) (shape c.args.right.now)
