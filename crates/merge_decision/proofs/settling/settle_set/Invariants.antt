use Rattle.std.proofs.Common.{◌≡◌, take}
use Rattle.std.specs.List.{All}
use Rattle.merge_sets.specs.declared.node.Entry.{Entry}
use Rattle.merge_sets.specs.Indexed.{firsts_of}
use Rattle.merge_sets.specs.Names.{named}
use Rattle.merge_sets.specs.World.{world}
use Rattle.merge_decision.specs.Decided.{AreSettled, Grows, IsSound}
use Rattle.merge_decision.proofs.settling.settle_set.Given as goal

abbrev pub invariant-loop-first : goal.invariant-loop-first
invariant-loop-first g l =
    let w = world g.J.Judge.judgement l.graph in
    (l.first-items ≡ firsts_of l.set.own.items l.set.index)
    × Grows w l.fn.work l.work
    × (IsSound w l.fn.work → All (λ (f : Entry). AreSettled w l.work.unions.items l.x (named f.response l.set.own.items)) (take l.first-index l.first-items))
