use Rattle.std.proofs.Common.{◌≡◌, ℕ, List, map, take}
use Rattle.std.specs.Prelude.{find}
use Rattle.meta.specs.Places.{first_place, is_at}
use Rattle.meta.proofs.places.all_places.Given as goal

abbrev pub invariant-loop-i : goal.invariant-loop-i
invariant-loop-i g l = (name : List ℕ) → find (is_at (map g.T.Named.name_of l.items) name) l.places.items ≡ first_place name (take l.i (map g.T.Named.name_of l.items))
