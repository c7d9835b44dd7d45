-- Places where an input value of a type is expected (sections 3.6.1, 3.10, 3.11 and 5.8.5).
use Rattle.std.specs.Prelude.{ℕ, List, Option, Bool, false, is_some, find, option_and_then, string_bytes}
use Rattle.std.specs.Option.{option_map}
use Rattle.std.specs.Str.{bytes_eq}
use Rattle.language_types.specs.Types.{TypeShape, borrowed_shape, list_inner_of, shape}
use Rattle.meta.specs.declared.arguments.Argument.{Argument}
use Rattle.meta.specs.Kinds.{input_field_named}
use Rattle.schema.specs.Catalog.{Catalog, type_in}
use Rattle.rules_specified_uses.specs.declared.input_places.InputPlace.{InputPlace}

-- the type that is expected, and whether an argument or an input field with a default value stands for it
pub record PlaceValue : Type 0 where
  pub expected : TypeShape
  pub has_default : Bool

abbrev pub place_value : InputPlace → PlaceValue
place_value p = record { expected = borrowed_shape p.expected; has_default = p.has_default }

-- that of an argument, or of a field of an input object
abbrev pub place_of : {S : Type 0} → Argument S → PlaceValue
place_of a = record { expected = shape a.arg_type; has_default = is_some a.default_value }

-- the items of a list, which have no default value
abbrev pub item_of_type : TypeShape → PlaceValue
item_of_type t = record { expected = t; has_default = false }

abbrev pub item_place : Option PlaceValue → Option PlaceValue
item_place place = option_map item_of_type (option_and_then (λ p. list_inner_of p.expected) place)

-- the first argument of the name among these
abbrev pub argument_place : {S : Type 0} → Option (List (Argument S)) → List ℕ → Option PlaceValue
argument_place arguments name = option_map place_of (option_and_then (find (λ a. bytes_eq (string_bytes a.name) name)) arguments)

-- the first field of the key, in the input object that the type names, within lists of any depth
abbrev pub field_place : {S C : Type 0} → Catalog S C → Option PlaceValue → List ℕ → Option PlaceValue
field_place schema place key =
    option_map place_of (option_and_then (input_field_named key) (option_and_then (λ p. type_in p.expected.name schema) place))
