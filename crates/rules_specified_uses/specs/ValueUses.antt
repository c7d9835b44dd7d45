-- The variables in a value, where a type is expected (section 5.8.5).
use Rattle.std.specs.Prelude.{ℕ, List, [], ◌∷◌, Option, Some, None, string_bytes}
use Rattle.std.specs.List.{flat_map}
use Rattle.std.specs.declared.alloc.Global.{Global}
use Rattle.std.specs.declared.vec.Vec.{Vec}
use Rattle.language_types.specs.Position.{Placed}
use Rattle.language_types.specs.Types.{borrowed_shape}
use Rattle.language_types.specs.declared.position.SourcePosition.{SourcePosition}
use Rattle.language_types.specs.declared.position.Span.{Span}
use Rattle.language_values.specs.declared.value.InputValue.{InputValue, fold-InputValue}
use Rattle.language_values.specs.declared.value.InputValue.TheOpen as opened
use Rattle.schema.specs.Catalog.{Catalog}
use Rattle.rules_positions.specs.JudgedUses.{values_in}
use Rattle.rules_specified_uses.specs.InputPlaces.{PlaceValue, field_place, item_place}
use Rattle.rules_specified_uses.specs.declared.value_uses.PlacedUse.{PlacedUse}

-- a variable, where it stands, the type that is expected there, and whether that place has a default value
pub record UseValue : Type 0 where
  pub variable : List ℕ
  pub place : SourcePosition
  pub at : PlaceValue

-- a variable at a place, if a type is expected there
abbrev pub use_at : List ℕ → SourcePosition → Option PlaceValue → List UseValue
use_at variable place None = []
use_at variable place (Some at) = record { variable = variable; place = place; at = at } ∷ []

-- the uses in a value that stands here, at a place
abbrev pub UsesAt : Type 0
UsesAt = Span → Option PlaceValue → List UseValue

module _ {S C : Type 0} (schema : Catalog S C) where
  -- one level of a value, with the uses of each value inside in its place
  abbrev pub uses_step : opened.InputValue-F S UsesAt → UsesAt
  uses_step (opened.Variable v) here place = use_at (string_bytes v) here.start place
  uses_step (opened.List vs) here place = flat_map (λ v. v.item v.span (item_place place)) vs.items
  uses_step (opened.Object es) here place = flat_map (λ e. e.1.item e.1.span (field_place schema place (string_bytes e.0.item))) es.items
  uses_step _ here place = []

  -- The uses in a value, at any depth. By cases:
  --   a variable   it, if a type is expected
  --   a list       those of its items, each at the place of an item
  --   an object    those of its entries, each at the place of the field of its key
  --   any other    none
  abbrev pub uses_of : InputValue S → UsesAt
  uses_of = fold-InputValue S UsesAt uses_step

  -- those of a value that stands in the text
  abbrev pub value_uses : Option PlaceValue → Placed (InputValue S) → List UseValue
  value_uses place v = uses_of v.item v.span place

abbrev pub use_value : PlacedUse → UseValue
use_value u = record {
  variable = u.variable.now;
  place = u.place;
  at = record { expected = borrowed_shape u.expected; has_default = u.has_default };
}

abbrev pub use_values : List (Vec PlacedUse Global) → List (List UseValue)
use_values = values_in use_value
