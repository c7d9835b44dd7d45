-- The values that a document gives to arguments of directives (section 3.13).
use Rattle.std.specs.Prelude.{ℕ, List, [], ◌∷◌, Option, Some, None, find, map}
use Rattle.std.specs.List.{flat_map}
use Rattle.std.specs.Str.{bytes_eq}
use Rattle.graphql_reader.specs.declared.type_system.DirectiveDefinition.{DirectiveDefinition}
use Rattle.graphql_reader.specs.declared.type_system.InputValueDefinition.{InputValueDefinition}
use Rattle.graphql_reader.specs.declared.type_system.TypeSystemDefinition.{TypeSystemDefinition}
use Rattle.language_types.specs.declared.position.SourcePosition.{SourcePosition}
use Rattle.language_values.specs.declared.value.InputValue.{InputValue}
use Rattle.language_types.specs.Types.{TypeShape, borrowed_shape, shape}
use Rattle.sdl_scalars.specs.declared.scalar.SourceScalar.{SourceScalar}
use Rattle.sdl_directives.specs.Arguments.{Given, arguments_of}
use Rattle.sdl_directives.specs.Judged.{applied_name}
use Rattle.sdl_directives.specs.Known.{directive_named, known_directives}
use Rattle.sdl_directives.specs.Sites.{Applied, SiteValue, definition_sites}
use Rattle.sdl_directive_values.specs.declared.given.GivenValue.{GivenValue}

-- a value: the name of its argument, where it starts, and the type that it must conform to
pub record GivenAt : Type 0 where
  pub name : List ℕ
  pub position : SourcePosition
  pub expected : TypeShape
  pub value : InputValue SourceScalar

abbrev pub given_value : GivenValue → GivenAt
given_value d = record { name = d.name.now; position = d.position; expected = borrowed_shape d.expected; value = d.value.now }

abbrev pub given_values : List GivenValue → List GivenAt
given_values = map given_value

-- the first argument of a name that a directive has
abbrev pub parameter_named : List ℕ → List InputValueDefinition → Option InputValueDefinition
parameter_named n xs = find (λ a. bytes_eq a.name.item.now n) xs

-- the value of an argument, if the directive has it
abbrev pub values_by : Given → Option InputValueDefinition → List GivenAt
values_by a None = []
values_by a (Some x) = record { name = a.0.item.now; position = a.1.span.start; expected = shape x.value_type.item; value = a.1.item } ∷ []

abbrev pub argument_values : List InputValueDefinition → Given → List GivenAt
argument_values parameters a = values_by a (parameter_named a.0.item.now parameters)

-- those of a directive, if it is defined
abbrev pub defined_values : Applied → Option DirectiveDefinition → List GivenAt
defined_values x None = []
defined_values x (Some defined) = flat_map (argument_values defined.arguments.items) (arguments_of x.item)

module _ (known : List DirectiveDefinition) where
  abbrev pub directive_values : Applied → List GivenAt
  directive_values x = defined_values x (directive_named known (applied_name x))

  -- of directives that stand together
  abbrev pub site_given : SiteValue → List GivenAt
  site_given s = flat_map directive_values s.directives

-- of all of a document, by the directives that it defines and those that another one does
abbrev pub document_values : List TypeSystemDefinition → List TypeSystemDefinition → List GivenAt
document_values document standard = flat_map (site_given (known_directives document standard)) (flat_map definition_sites document)
