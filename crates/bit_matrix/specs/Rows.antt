-- What rows of bits have.
use Rattle.std.specs.Prelude.{ℕ, Bool, false, slice_get}
use Rattle.std.specs.Option.{option_map_or}
use Rattle.bit_matrix.specs.declared.rows.BitRows.{BitRows}
use Rattle.bit_matrix.specs.Set.{has}

-- Column j is in the set of row i.
unfoldable pub marked : BitRows → ℕ → ℕ → Bool
marked rows i j = option_map_or (λ set. has set j) (slice_get rows.rows.items i) false
