use Rattle.std.proofs.Common.{◌≡◌, ◌+◌, ℕ, length, take}
use Rattle.merge_set_table.specs.Nesting.{parts_measure, inner_measure}
use Rattle.merge_set_table.proofs.steps.add_parts.Given as goal

abbrev pub invariant-loop-part : goal.invariant-loop-part
invariant-loop-part l =
    (length l.all.items ≡ length l.fn.all.items + l.part-index)
    × ((g : ℕ → ℕ → ℕ → ℕ) → inner_measure g l.all.items ≡ inner_measure g l.fn.all.items + parts_measure (g l.number) (take l.part-index l.inner))
