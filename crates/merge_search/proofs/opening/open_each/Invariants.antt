use Rattle.std.proofs.Common.{take}
use Rattle.merge_sets.specs.World.{world}
use Rattle.merge_search.specs.Opened.{OpensEach}
use Rattle.merge_search.proofs.opening.open_each.Given as goal

abbrev pub invariant-loop-f : goal.invariant-loop-f
invariant-loop-f g l = OpensEach (world g.J.Judge.judgement l.graph) l.e l.i (take l.f-index l.fragments) l.fn.opening l.opening l.fn.search l.search
