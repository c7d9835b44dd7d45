-- Sets whose fields stand in others.
use Rattle.std.specs.Prelude.{ℕ, List}
use Rattle.std.specs.List.{All, Contains}
use Rattle.merge_sets.specs.declared.node.Entry.{Entry}
use Rattle.merge_sets.specs.Merging.{Stands}
use Rattle.merge_sets.specs.World.{World, spreads_of}

-- What stands in the one set stands in the other.
abbrev pub IsWithin : World → ℕ → ℕ → Type 0
IsWithin w s t = (a : Entry) → Stands w s a → Stands w t a

-- What stands in the set stands in one of some.
abbrev pub IsHeld : World → List ℕ → ℕ → Type 0
IsHeld w sets t = (a : Entry) → Stands w t a → (s : ℕ) × Contains sets s × Stands w s a

-- Each of the fragments is spread by one of some sets.
abbrev pub AreSpread : World → List ℕ → List ℕ → Type 0
AreSpread w sets fragments = All (λ f. (s : ℕ) × Contains sets s × Contains (spreads_of w s) f) fragments
