use Rattle.std.proofs.Common.{◌≡◌, Some, slice_get}
use Rattle.type_system_circles.specs.declared.search.Colour.TheVariants.{New}
use Rattle.type_system_circles.specs.Sound.{Ends, Keeps}
use Rattle.type_system_circles.proofs.search.explore.Given as goal

abbrev pub invariant-loop : goal.invariant-loop
invariant-loop l =
    Ends l.graph l.end l.search × Keeps l.fn.search l.search × (slice_get l.search.colours.items l.root ≡ Some New → ⊥)
