-- Arguments of an interface's field that a field does not meet (sections 3.6 and 3.7).
use Rattle.std.specs.Prelude.{List, [], ◌∷◌, Option, Some, None, not, string_bytes}
use Rattle.std.specs.List.{flat_map}
use Rattle.language_types.specs.Types.{shape}
use Rattle.meta.specs.declared.arguments.Argument.{Argument}
use Rattle.meta.specs.Arguments.{arguments_of}
use Rattle.type_system_report.specs.declared.fault.FaultKindOf.TheVariants as k
use Rattle.type_system_interfaces.specs.Arguments.{argument_named}
use Rattle.type_system_report.specs.Fault.{FaultValue, fault_if}
use Rattle.type_system_interfaces.specs.Pair.{PairValue, given_argument, given_field, wanted_argument}
use Rattle.type_system_interfaces.specs.SameTypes.{is_same_type}

module _ {S : Type 0} (p : PairValue S) where
  -- an argument, if the second of its name has another type
  abbrev pub other_type : Argument S → Argument S → List FaultValue
  other_type a b =
      fault_if (not (is_same_type (shape a.arg_type) (shape b.arg_type))) (given_argument p (string_bytes a.name))
      (k.WrongArgumentType (wanted_argument p (string_bytes a.name)) (shape a.arg_type) (shape b.arg_type))

  -- an argument of the interface's field, beside that of its name
  abbrev pub unmet_by : Argument S → Option (Argument S) → List FaultValue
  unmet_by a None = record { coordinate = given_field p; kind = k.MissingArgument (wanted_argument p (string_bytes a.name)) } ∷ []
  unmet_by a (Some b) = other_type a b

  abbrev pub unmet_argument : Argument S → List FaultValue
  unmet_argument a = unmet_by a (argument_named (string_bytes a.name) p.given)

  -- all arguments of the interface's field
  abbrev pub unmet_arguments : List FaultValue
  unmet_arguments = flat_map unmet_argument (arguments_of p.wanted)
