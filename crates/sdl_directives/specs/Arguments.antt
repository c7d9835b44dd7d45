-- What is wrong with the arguments of a directive (sections 5.4.1 and 5.4.2).
use denote.Ref.{Bor}
use Rattle.std.specs.Prelude.{ℕ, List, [], ◌++◌, Bool, ◌&&◌, Option, Some, None, is_some, not}
use Rattle.std.specs.List.{flat_map, list_any}
use Rattle.std.specs.Str.{bytes_eq}
use Rattle.graphql_reader.specs.declared.type_system.DirectiveDefinition.{DirectiveDefinition}
use Rattle.graphql_reader.specs.declared.type_system.InputValueDefinition.{InputValueDefinition}
use Rattle.language.specs.declared.tree.Arguments.{Arguments}
use Rattle.language.specs.declared.tree.Directive.{Directive}
use Rattle.language_values.specs.declared.value.InputValue.{InputValue}
use Rattle.language_types.specs.Position.{Placed}
use Rattle.language_types.specs.Types.{is_never_null, shape}
use Rattle.sdl_scalars.specs.declared.scalar.SourceScalar.{SourceScalar}
use Rattle.sdl_directives.specs.declared.fault.DirectiveFaultOf.TheVariants as k
use Rattle.sdl_directives.specs.Earlier.{each_after}
use Rattle.sdl_directives.specs.Fault.{FaultValue, fault_if}
use Rattle.sdl_directives.specs.Sites.{Applied}

-- a name and a value
abbrev pub Given : Type 0
Given = Placed (Bor (List ℕ)) × Placed (InputValue SourceScalar)

abbrev pub given_in : Option (Placed (Arguments SourceScalar)) → List Given
given_in None = []
given_in (Some x) = x.item.items.items

abbrev pub arguments_of : Directive SourceScalar → List Given
arguments_of x = given_in x.arguments

-- one of the arguments has this name, of those that are given and of those that a directive has
abbrev pub has_argument : List ℕ → List Given → Bool
has_argument n xs = list_any (λ a. bytes_eq a.0.item.now n) xs

abbrev pub is_parameter : List ℕ → List InputValueDefinition → Bool
is_parameter n xs = list_any (λ a. bytes_eq a.name.item.now n) xs

-- non-null, with no default value
abbrev pub is_required : InputValueDefinition → Bool
is_required a = is_never_null (shape a.value_type.item) && not (is_some a.default_value)

-- required, and none of those that are given
abbrev pub is_missing : InputValueDefinition → List Given → Bool
is_missing a xs = is_required a && not (has_argument a.name.item.now xs)

-- an argument that stands before in the list
abbrev pub repeated_argument : List Given → Given → List FaultValue
repeated_argument before a = fault_if (has_argument a.0.item.now before) a.0.span.start (k.RepeatedArgument a.0.item.now)

module _ (defined : DirectiveDefinition) where
  -- one that the directive does not have
  abbrev pub unknown_argument : Given → List FaultValue
  unknown_argument a =
      fault_if (not (is_parameter a.0.item.now defined.arguments.items)) a.0.span.start
      (k.UnknownArgument a.0.item.now defined.name.item.now)

  -- both, of an argument after others, and of all in turn
  abbrev pub argument_judged : List Given → Given → List FaultValue
  argument_judged before a = unknown_argument a ++ repeated_argument before a

  abbrev pub listed_faults : List Given → List FaultValue
  listed_faults xs = each_after argument_judged [] xs

  abbrev pub argument_faults : Directive SourceScalar → List FaultValue
  argument_faults x = listed_faults (arguments_of x)

  -- a required argument that is not given
  abbrev pub missing_argument : Applied → InputValueDefinition → List FaultValue
  missing_argument x a =
      fault_if (is_missing a (arguments_of x.item)) x.span.start
      (k.MissingArgument defined.name.item.now a.name.item.now (shape a.value_type.item))

  abbrev pub missing_arguments : Applied → List FaultValue
  missing_arguments x = flat_map (missing_argument x) defined.arguments.items
