use Rattle.std.proofs.Common.{◌≡◌, length}
use Rattle.language_types.specs.Types.{borrowed_shape}
use Rattle.merge_field_pairs.specs.TypeConflict.{do_types_conflict}
use Rattle.merge_field_pairs.proofs.type_conflict.conflict_of.Given as goal

-- the types that are left conflict if the whole ones do
abbrev pub invariant-loop-left : goal.invariant-loop-left
invariant-loop-left g l =
    do_types_conflict l.schema (borrowed_shape l.left) (borrowed_shape l.right)
    ≡ do_types_conflict l.schema (borrowed_shape l.initial.left) (borrowed_shape l.initial.right)

abbrev pub decreases-loop-left : goal.decreases-loop-left
decreases-loop-left g l = length l.left.modifiers.now
