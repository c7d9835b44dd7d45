-- The keys of an object that no input field has.
use Rattle.std.specs.Prelude.{ℕ, List, [], ◌∷◌, ◌++◌, ◌||◌, map, fold, string_bytes, if◌then◌else◌}
use Rattle.language_values.specs.Values.{Entry}
use Rattle.meta.specs.declared.arguments.Argument.{Argument}
use Rattle.schema.specs.Possible.{is_among}

abbrev pub keys_of : {A : Type 0} → List (Entry A) → List (List ℕ)
keys_of es = map (λ e. string_bytes e.0.item) es

abbrev pub field_names : {S : Type 0} → List (Argument S) → List (List ℕ)
field_names fields = map (λ a. string_bytes a.name) fields

-- one key more, unless it is the name of a field or noted already
abbrev pub noted : List (List ℕ) → List (List ℕ) → List ℕ → List (List ℕ)
noted fields names key = if is_among fields key || is_among names key then names else names ++ key ∷ []

-- the keys that no field has, each once
abbrev pub unknown_keys : List (List ℕ) → List (List ℕ) → List (List ℕ)
unknown_keys fields keys = fold (noted fields) [] keys
