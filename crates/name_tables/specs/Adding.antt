-- How a map grows.
use Rattle.std.specs.Prelude.{ℕ, List, [], ◌∷◌, ◌++◌, length, ◌≡◌, Option, None, Some, if◌then◌else◌}
use Rattle.std.specs.Option.{is_some}
use Rattle.std.specs.Str.{bytes_eq}
use denote.Ref.{Bor}
use Rattle.name_tables.specs.declared.map.NameMap.{NameMap}
use Rattle.name_tables.specs.Maps.{entries_of, index_of}

abbrev pub or_else : {T : Type 0} → Option T → Option T → Option T
or_else None o = o
or_else (Some x) o = Some x

-- A new name gets the next index, with this value; a name that the map has changes nothing.
pub record Adds {T : Type 0} (name : Bor (List ℕ)) (value : T) (old new : NameMap T) : Type 0 where
  pub entries : entries_of new ≡ (if is_some (index_of old name.now) then entries_of old else entries_of old ++ (name, value) ∷ [])
  pub indices : (other : List ℕ) → index_of new other
      ≡ or_else (index_of old other) (if bytes_eq name.now other then Some (length (entries_of old)) else None)

-- The map has the same names, with the same indices and values.
pub record IsUnchanged {T : Type 0} (old new : NameMap T) : Type 0 where
  pub entries : entries_of new ≡ entries_of old
  pub indices : (name : List ℕ) → index_of new name ≡ index_of old name
