use Rattle.std.proofs.Common.{◌<◌, length, take}
use Rattle.std.specs.List.{All, Contains}
use Rattle.merge_sets.specs.World.{world, spreads_of}
use Rattle.merge_decision.specs.Held.{AreSpread}
use Rattle.merge_decision.proofs.written.spreads_in.Given as goal

abbrev pub invariant-loop-s : goal.invariant-loop-s
invariant-loop-s g l =
    All (λ s. All (λ f. Contains l.fragments.items f) (spreads_of (world g.J.Judge.judgement l.graph) s)) (take l.s-index l.sets)
    × All (λ f. f < length l.graph.fragments.items) l.fragments.items
    × AreSpread (world g.J.Judge.judgement l.graph) l.sets l.fragments.items
