use Rattle.std.proofs.Common.{take}
use Rattle.merge_sets.specs.Clear.{AreLeaves}
use Rattle.merge_sets.proofs.view.are_leaves.Given as goal

abbrev pub invariant-loop-field : goal.invariant-loop-field
invariant-loop-field l = AreLeaves (take l.field-index l.fields)
