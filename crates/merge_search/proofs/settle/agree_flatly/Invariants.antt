use Rattle.std.proofs.Common.{take}
use Rattle.merge_search.specs.Settle.{AgreeFlatly}
use Rattle.merge_sets.specs.World.{world}
use Rattle.merge_search.proofs.settle.agree_flatly.Given as goal

abbrev pub invariant-loop-c : goal.invariant-loop-c
invariant-loop-c g l = AgreeFlatly (world g.J.Judge.judgement l.graph) l.e (take l.c-index l.left) l.right
