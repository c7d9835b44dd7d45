use Rattle.std.proofs.Common.{◌≡◌, ◌<◌, ℕ, Some, slice_get}
use Rattle.type_system_circles.specs.declared.search.Colour.TheVariants.{New}
use Rattle.type_system_circles.specs.Sound.{Idle}
use Rattle.type_system_circles.proofs.search.circles_of.Given as goal

-- no node is in work, and none that was visited is new
abbrev pub invariant-loop-root : goal.invariant-loop-root
invariant-loop-root l =
    Idle l.graph l.search × ((v : ℕ) → v < l.root → slice_get l.search.colours.items v ≡ Some New → ⊥)
