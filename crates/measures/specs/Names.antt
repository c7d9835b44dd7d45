-- Names of fields of introspection (section 4).
use Rattle.std.specs.Prelude.{ℕ, List, Bool, ◌||◌, codes}
use Rattle.std.specs.Str.{bytes_eq}

-- `__schema` and `__type`
abbrev pub is_entry : List ℕ → Bool
is_entry name = bytes_eq name (codes "__schema") || bytes_eq name (codes "__type")

-- the lists of a type that lead to more types
abbrev pub is_listing : List ℕ → Bool
is_listing name =
    bytes_eq name (codes "fields") || bytes_eq name (codes "interfaces") || bytes_eq name (codes "possibleTypes")
    || bytes_eq name (codes "inputFields")
