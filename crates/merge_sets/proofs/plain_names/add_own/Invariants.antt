use Rattle.std.proofs.Common.{◌≡◌, true, take}
use Rattle.std.specs.List.{All, Contains}
use Rattle.bit_matrix.specs.Set.{has}
use Rattle.merge_sets.specs.declared.node.Entry.{Entry}
use Rattle.merge_sets.specs.World.{world, own_of}
use Rattle.merge_sets.proofs.plain_names.add_own.Given as goal

abbrev pub invariant-loop-field : goal.invariant-loop-field
invariant-loop-field g l =
    (l.field-items ≡ own_of (world g.J.Judge.judgement l.graph) l.s)
    × All (λ (a : Entry). has l.marked a.response ≡ true → Contains l.fields.items a) (take l.field-index l.field-items)
    × ((a : Entry) → Contains l.fn.fields.items a → Contains l.fields.items a)
