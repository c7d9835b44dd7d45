use Rattle.std.proofs.Common.{◌≡◌, ◌⊎◌, ℕ, None, Some, true, slice_get}
use Rattle.bit_matrix.specs.Set.{has}
use Rattle.merge_sets.specs.declared.node.Entry.{Entry}
use Rattle.merge_certificates.proofs.clear.rows_of_both.Given as goal

abbrev pub invariant-loop-k : goal.invariant-loop-k
invariant-loop-k l =
    ((k : ℕ) (a : Entry) → slice_get l.fields k ≡ Some a → has l.both k ≡ true → (has l.rows k ≡ true) × ((a.below ≡ None) ⊎ (has l.below k ≡ true)))
    × ((k : ℕ) → has l.both k ≡ true → has l.rows k ≡ true)
