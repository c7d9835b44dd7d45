use Rattle.std.proofs.Common.{◌≤◌, take}
use Rattle.std.specs.List.{All}
use Rattle.merge_sets.specs.Kinds.{IsOfKind}
use Rattle.merge_sets.proofs.kinds.kinds_of.Given as goal

abbrev pub invariant-loop-a : goal.invariant-loop-a
invariant-loop-a g l =
    All (λ a. IsOfKind (g.J.Judge.are_kin l.graph.judge) l.kinds.items a.field) (take l.a-index l.fields) × (l.budget ≤ l.fn.budget)
