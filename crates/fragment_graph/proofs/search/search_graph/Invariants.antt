use Rattle.std.proofs.Common.{ℕ, ◌<◌, ◌≡◌, [], Some, slice_get}
use Rattle.fragment_graph.specs.declared.search.Colour.TheVariants.{New}
use Rattle.fragment_graph.specs.Sound.{SoundAlong}
use Rattle.fragment_graph.proofs.search.search_graph.Given as goal

abbrev pub invariant-loop-root : goal.invariant-loop-root
invariant-loop-root l =
    SoundAlong l.graph [] [] l.search
    × (l.search.path.items ≡ [])
    × ((v : ℕ) → v < l.root → slice_get l.search.colours.items v ≡ Some New → ⊥)
