use Rattle.std.proofs.Common.{◌≡◌, ◌<◌, ℕ, length, Option, Some, slice_get}
use Rattle.language.specs.declared.tree.Definition.{Definition}
use Rattle.fragment_graph.specs.Kept.{IsNumberOf}
use Rattle.fragment_graph.proofs.kept.are_numbers_of.Given as goal

abbrev pub invariant-loop-place : goal.invariant-loop-place
invariant-loop-place g l =
    (length l.names.defined.items ≡ length l.document)
    × ((i : ℕ) (o : Option ℕ) (d : Definition g.row.S.Denot) → i < l.place → slice_get l.names.defined.items i ≡ Some o → slice_get l.document i ≡ Some d → IsNumberOf l.names.numbers o d)
