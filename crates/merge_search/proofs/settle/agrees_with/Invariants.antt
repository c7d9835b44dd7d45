use Rattle.std.proofs.Common.{take}
use Rattle.merge_search.specs.Settle.{AgreesWith}
use Rattle.merge_sets.specs.World.{world}
use Rattle.merge_search.proofs.settle.agrees_with.Given as goal

abbrev pub invariant-loop-d : goal.invariant-loop-d
invariant-loop-d g l = AgreesWith (world g.J.Judge.judgement l.graph) l.e l.c (take l.d-index l.others)
