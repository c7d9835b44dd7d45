-- What is compared once more for the set of an inline fragment.
use Rattle.std.specs.Prelude.{ℕ, ◌+◌, ◌<◌, List, Some, true, ◌≡◌, slice_get}
use Rattle.std.specs.List.{Contains}
use Rattle.bit_matrix.specs.Set.{has}
use Rattle.bit_matrix.specs.declared.set.BitSet.{BitSet}
use Rattle.merge_sets.specs.declared.node.Entry.{Entry}
use Rattle.merge_sets.specs.World.{World, set_of, Same}
use Rattle.merge_sets.specs.Merging.{Stands}
use Rattle.merge_search.specs.Reports.{Root, AtLists}

-- The fields of the one list stand in the other, one beside the next.
abbrev pub IsPart : List Entry → List Entry → Type 0
IsPart part fields = (n : ℕ) × ((k : ℕ) (a : Entry) → slice_get part k ≡ Some a → slice_get fields (n + k) ≡ Some a)

-- The fragment is there, and has its bit.
abbrev pub IsStart : ℕ → BitSet → ℕ → Type 0
IsStart count listed g = (g < count) × (has listed g ≡ true)

-- A field of each list, of one response name.
abbrev pub AtPart : List Entry → List Entry → Root → Type 0
AtPart part fields r = AtLists part fields r × Same r.left r.right

-- A field of the list, and one of some fragments, of one response name.
abbrev pub AtParts : World → List Entry → List ℕ → Root → Type 0
AtParts w part starts r = (f : ℕ) × Contains starts f × Contains part r.left × Stands w (set_of w f) r.right × Same r.left r.right
