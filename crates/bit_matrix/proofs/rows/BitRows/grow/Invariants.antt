use Rattle.std.proofs.Common.{◌≡◌, ◌≤◌, ℕ, ◌+◌, ◌-◌, length, vec_len}
use Rattle.bit_matrix.specs.Rows.{marked}
use Rattle.bit_matrix.proofs.rows.BitRows.grow.Given as goal

abbrev pub invariant-loop-self : goal.invariant-loop-self
invariant-loop-self l =
    ((i j : ℕ) → marked l.self i j ≡ marked l.initial.self i j) × (length l.initial.self.rows.items ≤ length l.self.rows.items)

abbrev pub decreases-loop-self : goal.decreases-loop-self
decreases-loop-self l = l.row + 1 - vec_len l.self.rows
