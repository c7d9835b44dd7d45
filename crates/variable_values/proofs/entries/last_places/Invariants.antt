use Rattle.std.proofs.Common.{ℕ, List, take}
use Rattle.language_values.specs.Values.{last_value}
use Rattle.variable_values.specs.Entries.{IsPlaceOf, place_in}
use Rattle.variable_values.proofs.entries.last_places.Given as goal

abbrev pub invariant-loop-i : goal.invariant-loop-i
invariant-loop-i g l = (key : List ℕ) → IsPlaceOf l.entries (last_value key (take l.i l.entries)) (place_in l.places key)
