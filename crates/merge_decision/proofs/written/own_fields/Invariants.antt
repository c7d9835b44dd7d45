use Rattle.std.proofs.Common.{take}
use Rattle.std.specs.List.{All, Contains}
use Rattle.merge_sets.specs.declared.node.Entry.{Entry}
use Rattle.merge_sets.specs.World.{world, own_of}
use Rattle.merge_decision.proofs.written.own_fields.Given as goal

abbrev pub invariant-loop-s : goal.invariant-loop-s
invariant-loop-s g l =
    All (λ s. (a : Entry) → Contains (own_of (world g.J.Judge.judgement l.graph) s) a → Contains l.fields.items a) (take l.s-index l.sets)
