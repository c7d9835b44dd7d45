use Rattle.std.proofs.Common.{◌≡◌, drop}
use Rattle.language.specs.Spreads.{are_leaf_fields}
use Rattle.language.proofs.spreads.all_leaf_fields.Given as goal

-- the answer is that for those that are left
abbrev pub invariant-loop-selection : goal.invariant-loop-selection
invariant-loop-selection g l = are_leaf_fields l.set ≡ are_leaf_fields (drop l.selection-index l.set)
