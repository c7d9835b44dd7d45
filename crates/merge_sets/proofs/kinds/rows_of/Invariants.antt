use Rattle.std.proofs.Common.{◌≡◌, ◌<◌, ◌≤◌, ℕ, Some, true}
use Rattle.std.specs.List.{All, slice_get}
use Rattle.bit_matrix.specs.Set.{has}
use Rattle.merge_sets.specs.declared.node.Entry.{Entry}
use Rattle.merge_sets.specs.Kinds.{IsClearKind, IsTrueOf}
use Rattle.merge_sets.proofs.kinds.rows_of.Given as goal

abbrev pub invariant-loop-k : goal.invariant-loop-k
invariant-loop-k g l =
    All (IsTrueOf (g.J.Judge.judgement l.graph.judge) l.e l.others) l.kinds.items
    × ((k : ℕ) (a : Entry) → slice_get l.left k ≡ Some a → has l.rows k ≡ true
    → IsClearKind (g.J.Judge.judgement l.graph.judge) (g.J.Judge.are_kin l.graph.judge) l.e l.others a.field)
    × (l.budget ≤ l.fn.budget)
    × ((k : ℕ) → has l.rows k ≡ true → l.budget < l.fn.budget)
