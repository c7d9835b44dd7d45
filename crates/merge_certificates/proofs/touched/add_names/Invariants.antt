use Rattle.std.proofs.Common.{ℕ, ◌≡◌, true, take}
use Rattle.std.specs.List.{All, Contains}
use Rattle.bit_matrix.specs.Set.{has}
use Rattle.merge_sets.specs.declared.node.Entry.{Entry}
use Rattle.merge_certificates.proofs.touched.add_names.Given as goal

abbrev pub invariant-loop-field : goal.invariant-loop-field
invariant-loop-field l =
    ((n : ℕ) → Contains l.fn.found.items n → Contains l.found.items n)
    × All (λ (c : Entry). has l.names c.response ≡ true → Contains l.found.items c.response) (take l.field-index l.fields)
