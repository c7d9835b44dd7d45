use Rattle.std.proofs.Common.{option_copied, refl, sym, ap, ◌∙◌}
use Rattle.language_types.specs.Types.{borrowed_shape}
use Rattle.merge_field_pairs.specs.TypeConflict.{do_names_conflict}
use Rattle.merge_field_pairs.proofs.TypeLemmas.{conflict_at, conflict_inside}
use Rattle.merge_field_pairs.proofs.type_conflict.conflict_of.Goals as goal

pub loop-left-preserved : goal.loop-left-preserved
loop-left-preserved g c =
    conflict_inside c.args.schema.now (borrowed_shape c.loop-left.left) (borrowed_shape c.loop-left.right) _ _ _ refl c.borrow_inner-left.ensures c.borrow_inner-right.ensures
    ∙ sym (conflict_at c.args.schema.now (borrowed_shape c.loop-left.left) (borrowed_shape c.loop-left.right) (option_copied c.modifier.result) (option_copied c.modifier-in-loop-left.result) _
    c.in-Inside.ensures c.modifier.ensures c.modifier-in-loop-left.ensures)
    ∙ c.loop-left.invariant

pub returns-in-ByNames : goal.returns-in-ByNames
returns-in-ByNames g c =
    c.names_conflict.ensures
    ∙ ap (λ n. do_names_conflict c.args.schema.now n c.innermost_name-in-ByNames.result.now) c.innermost_name.ensures
    ∙ ap (do_names_conflict c.args.schema.now c.loop-left.left.name.now) c.innermost_name-in-ByNames.ensures
    ∙ sym (conflict_at c.args.schema.now (borrowed_shape c.loop-left.left) (borrowed_shape c.loop-left.right) (option_copied c.modifier.result) (option_copied c.modifier-in-loop-left.result) _
    c.in-ByNames.ensures c.modifier.ensures c.modifier-in-loop-left.ensures)
    ∙ c.loop-left.invariant

pub returns-in-Agreeing : goal.returns-in-Agreeing
returns-in-Agreeing g c =
    sym (conflict_at c.args.schema.now (borrowed_shape c.loop-left.left) (borrowed_shape c.loop-left.right) (option_copied c.modifier.result) (option_copied c.modifier-in-loop-left.result) _
    c.in-Agreeing.ensures c.modifier.ensures c.modifier-in-loop-left.ensures)
    ∙ c.loop-left.invariant

pub returns-in-Conflicting : goal.returns-in-Conflicting
returns-in-Conflicting g c =
    sym (conflict_at c.args.schema.now (borrowed_shape c.loop-left.left) (borrowed_shape c.loop-left.right) (option_copied c.modifier.result) (option_copied c.modifier-in-loop-left.result) _
    c.in-Conflicting.ensures c.modifier.ensures c.modifier-in-loop-left.ensures)
    ∙ c.loop-left.invariant
