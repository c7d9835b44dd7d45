-- The places that are kept.
use Rattle.std.specs.Prelude.{ℕ, [], ◌≡◌}
use Rattle.name_tables.specs.Maps.{entries_of, slots_in, value_of}
use Rattle.rules_support.specs.declared.first_places.FirstPlaces.{FirstPlaces}
use Rattle.rules_support.specs.Names.{Places}

unfoldable pub places_of : FirstPlaces → Places
places_of f name = value_of f.places name

-- how many slots there are
abbrev pub slots_for : FirstPlaces → ℕ
slots_for f = slots_in f.places

-- no name was noted
abbrev pub HasNone : FirstPlaces → Type 0
HasNone f = entries_of f.places ≡ []
