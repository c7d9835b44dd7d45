use Rattle.std.proofs.Common.{take}
use Rattle.merge_sets.specs.World.{world}
use Rattle.merge_tops.specs.Tops.{AreAllBut}
use Rattle.merge_tops.proofs.top.unmarked.Given as goal

abbrev pub invariant-loop-g : goal.invariant-loop-g
invariant-loop-g g l = AreAllBut (world g.J.Judge.judgement l.graph) l.list (take l.g-index l.list) l.others.items
