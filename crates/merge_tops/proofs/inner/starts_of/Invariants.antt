use Rattle.std.proofs.Common.{length}
use Rattle.std.specs.List.{All}
use Rattle.merge_tops.specs.Inner.{IsStart}
use Rattle.merge_tops.proofs.inner.starts_of.Given as goal

abbrev pub invariant-loop-g : goal.invariant-loop-g
invariant-loop-g g l = All (IsStart (length l.graph.fragments.items) l.listed) l.starts.items
