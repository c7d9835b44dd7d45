-- The types of a list in a map from names to types.
use Rattle.std.specs.Prelude.{◌≡◌, ℕ, List, find, option_copied}
use denote.Ref.{Bor}
use Rattle.name_tables.specs.declared.map.NameMap.{NameMap}
use Rattle.name_tables.specs.Maps.{value_of}
use Rattle.meta.specs.declared.kinds.MetaTypeOf.{MetaTypeOf}
use Rattle.schema_validation.specs.Accepted.{is_named}

module _ {S C : Type 0} where
  -- under each name the map has the first type of the list that has this name
  abbrev pub HasTypes : List (MetaTypeOf S C) → NameMap (Bor (MetaTypeOf S C)) → Type 0
  HasTypes ts m = (name : List ℕ) → option_copied (value_of m name) ≡ find (is_named name) ts
