-- What has a name, in lists and in maps.
use Rattle.std.specs.Prelude.{ℕ, List, [], ◌∷◌, Bool, true, false, not, ◌&&◌, Option, is_some, String, string_bytes}
use Rattle.std.specs.declared.alloc.Global.{Global}
use Rattle.std.specs.List.{list_any, list_all}
use Rattle.std.specs.Option.{option_map_or}
use Rattle.std.specs.Str.{bytes_eq}

module _ {T : Type 0} (name_of : T → Option (List ℕ)) where
  -- it has this name
  abbrev pub is_called : List ℕ → T → Bool
  is_called name t = option_map_or (λ n. bytes_eq n name) (name_of t) false

  -- one of the list has this name
  abbrev pub is_any_called : List T → List ℕ → Bool
  is_any_called ts name = list_any (is_called name) ts

  -- each of the list has a name
  abbrev pub are_named : List T → Bool
  are_named ts = list_all (λ t. is_some (name_of t)) ts

  -- no two of the list have one name
  abbrev pub are_distinct : List T → Bool
  are_distinct [] = true
  are_distinct (t ∷ ts) = option_map_or (λ n. not (is_any_called ts n)) (name_of t) true && are_distinct ts

  -- each is under its own name
  abbrev pub are_keyed : List (String Global × T) → Bool
  are_keyed es = list_all (λ e. is_called (string_bytes e.0) e.1) es
