use Rattle.std.proofs.Common.{◌≡◌, ◌≤◌, take}
use Rattle.std.specs.List.{All}
use Rattle.merge_sets.specs.declared.node.Entry.{Entry}
use Rattle.merge_sets.specs.Indexed.{firsts_of}
use Rattle.merge_sets.specs.Kinds.{IsToldOf}
use Rattle.merge_sets.proofs.plain_names.marked_names.Given as goal

abbrev pub invariant-loop-first : goal.invariant-loop-first
invariant-loop-first g l =
    (l.first-items ≡ firsts_of l.set.own.items l.set.index)
    × All (λ (f : Entry). IsToldOf (g.J.Judge.judgement l.graph.judge) l.set.own.items l.mixed f.response) (take l.first-index l.first-items)
    × (l.budget ≤ l.fn.budget)
