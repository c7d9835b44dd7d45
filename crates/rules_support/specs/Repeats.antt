-- Names that stand in a list again.
use Rattle.std.specs.Prelude.{ℕ, List, [], ◌∷◌, ◌++◌, Option, None, Some, if◌then◌else◌}
use Rattle.std.specs.Str.{bytes_eq}
use Rattle.language_types.specs.declared.position.SourcePosition.{SourcePosition}
use Rattle.walk.specs.ErrorValue.{ErrorValue}
use Rattle.rules_support.specs.Names.{Named, Places}

-- the place of the first of a name
abbrev pub first_place : List Named → Places
first_place [] name = None
first_place (n ∷ rest) name = if bytes_eq n.0 name then Some n.1 else first_place rest name

-- a name: nothing if it is new, else the place of the first and its own
abbrev pub repeat_at : (List ℕ → List ℕ) → Option SourcePosition → Named → List ErrorValue
repeat_at message None n = []
repeat_at message (Some first) n = record { locations = first ∷ n.1 ∷ []; message = message n.0 } ∷ []

-- after these: each whose name stands earlier
abbrev pub repeats_after : (List ℕ → List ℕ) → List Named → List Named → List ErrorValue
repeats_after message earlier [] = []
repeats_after message earlier (n ∷ rest) = repeat_at message (first_place earlier n.0) n ++ repeats_after message (earlier ++ n ∷ []) rest

-- each of the list whose name stands earlier in it, with the place of the first
abbrev pub repeats : (List ℕ → List ℕ) → List Named → List ErrorValue
repeats message names = repeats_after message [] names
