use Rattle.std.proofs.Common.{◌≡◌, ℕ, length}
use Rattle.fragment_reach.specs.Search.{IsMarked, IsListed}
use Rattle.fragment_reach.proofs.search.forget.Given as goal

-- the nodes with marks are listed still
abbrev pub invariant-loop-node : goal.invariant-loop-node
invariant-loop-node l = (length l.marks.items ≡ length l.initial.marks.items) × ((v : ℕ) → IsMarked l.marks.items v → IsListed l.order.items v)

abbrev pub decreases-loop-node : goal.decreases-loop-node
decreases-loop-node l = length l.order.items
