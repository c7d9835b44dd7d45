use Rattle.std.proofs.Common.{ℕ, ◌<◌, ◌≤◌, length}
use Rattle.std.specs.List.{Contains}
use Rattle.merge_sets.specs.declared.node.Entry.{Entry}
use Rattle.merge_sets.specs.World.{world, own_of}
use Rattle.merge_sets.specs.Firsts.{IsNoted}
use Rattle.merge_sets.proofs.plain_names.unlike_names.Given as goal

abbrev pub invariant-loop-s : goal.invariant-loop-s
invariant-loop-s g l =
    ((i : ℕ) → i < l.s → (a : Entry) → Contains (own_of (world g.J.Judge.judgement l.graph) i) a → IsNoted (g.J.Judge.are_alike l.graph.judge) l.seen a)
    × (l.budget ≤ l.fn.budget)
    × ((i : ℕ) → i < l.s → 0 < length (own_of (world g.J.Judge.judgement l.graph) i) → 0 < l.fn.budget → l.budget < l.fn.budget)
