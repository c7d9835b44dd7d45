-- The default values of a type system (sections 3.6.1, 3.10 and 3.13).
use Rattle.std.specs.Prelude.{ℕ, List, [], ◌++◌, Vec, map, option_map, string_bytes}
use Rattle.std.specs.List.{flat_map}
use Rattle.std.specs.Option.{option_to_list}
use Rattle.std.specs.declared.alloc.Global.{Global}
use Rattle.language_types.specs.Types.{TypeShape, borrowed_shape, shape}
use Rattle.language_values.specs.declared.value.InputValue.{InputValue}
use Rattle.meta.specs.declared.arguments.Argument.{Argument}
use Rattle.meta.specs.declared.fields.Field.{Field}
use Rattle.meta.specs.declared.kinds.MetaTypeOf.{MetaTypeOf}
use Rattle.meta.specs.declared.kinds.MetaTypeOf.TheVariants as m
use Rattle.meta.specs.Arguments.{arguments_of}
use Rattle.schema_validation.specs.declared.directives.DirectiveType.{DirectiveType}
use Rattle.schema.specs.Catalog.{Catalog}
use Rattle.type_system_report.specs.declared.fault.CoordinateOf.TheVariants as c
use Rattle.type_system_report.specs.Fault.{CoordinateValue, coordinate_value}
use Rattle.type_system_defaults.specs.declared.given.GivenDefault.{GivenDefault}

-- A default value: where it stands, and the type that it must conform to.
pub record Given (S : Type 0) : Type 0 where
  pub coordinate : CoordinateValue
  pub expected : TypeShape
  pub value : InputValue S

module _ {S : Type 0} where
  abbrev pub given_value : GivenDefault S → Given S
  given_value d = record { coordinate = coordinate_value d.coordinate; expected = borrowed_shape d.expected; value = d.value.now }

  abbrev pub given_values : Vec (GivenDefault S) Global → List (Given S)
  given_values v = map given_value v.items

  -- the default value of an argument or an input field at this coordinate, if it has one
  abbrev pub default_at : CoordinateValue → Argument S → List (Given S)
  default_at at a = option_to_list (option_map (λ v. record { coordinate = at; expected = shape a.arg_type; value = v }) a.default_value)

  -- that of an argument of a field
  abbrev pub argument_default : List ℕ → List ℕ → Argument S → List (Given S)
  argument_default of field a = default_at (c.Argument of field (string_bytes a.name)) a

  -- those of a field
  abbrev pub field_defaults : List ℕ → Field S → List (Given S)
  field_defaults of f = flat_map (argument_default of (string_bytes f.name)) (arguments_of f)

  -- that of a field of an input object
  abbrev pub input_field_default : List ℕ → Argument S → List (Given S)
  input_field_default of a = default_at (c.Field of (string_bytes a.name)) a

  -- that of an argument of a directive, and those of a directive
  abbrev pub directive_argument_default : List ℕ → Argument S → List (Given S)
  directive_argument_default of a = default_at (c.DirectiveArgument of (string_bytes a.name)) a

  abbrev pub directive_defaults : DirectiveType S → List (Given S)
  directive_defaults d = flat_map (directive_argument_default (string_bytes d.name)) d.arguments.items

module _ {S C : Type 0} where
  -- those of a type
  abbrev pub type_defaults : MetaTypeOf S C → List (Given S)
  type_defaults (m.Object x) = flat_map (field_defaults (string_bytes x.name)) x.fields.items
  type_defaults (m.Interface x) = flat_map (field_defaults (string_bytes x.name)) x.fields.items
  type_defaults (m.InputObject x) = flat_map (input_field_default (string_bytes x.name)) x.input_fields.items
  type_defaults _ = []

  -- those of the types of a schema, and then those of these directives
  abbrev pub all_defaults : Catalog S C → List (DirectiveType S) → List (Given S)
  all_defaults schema ds = flat_map type_defaults schema.types ++ flat_map directive_defaults ds
