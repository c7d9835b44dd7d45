use Rattle.std.proofs.Common.{◌≡◌, ◌<◌, ℕ, true}
use Rattle.std.specs.List.{Contains}
use Rattle.bit_matrix.specs.Set.{has}
use Rattle.merge_sets.specs.declared.node.Entry.{Entry}
use Rattle.merge_sets.specs.World.{world, own_of}
use Rattle.merge_sets.proofs.plain_names.marked_fields.Given as goal

abbrev pub invariant-loop-s : goal.invariant-loop-s
invariant-loop-s g l =
    (i : ℕ) → i < l.s → (a : Entry) → Contains (own_of (world g.J.Judge.judgement l.graph) i) a → has l.marked a.response ≡ true
    → Contains l.fields.items a
