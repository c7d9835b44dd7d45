-- Required arguments that an interface's field lacks (sections 3.6 and 3.7).
use Rattle.std.specs.Prelude.{List, Bool, ◌&&◌, is_none, string_bytes}
use Rattle.std.specs.List.{flat_map}
use Rattle.meta.specs.declared.arguments.Argument.{Argument}
use Rattle.meta.specs.declared.fields.Field.{Field}
use Rattle.meta.specs.Arguments.{arguments_of}
use Rattle.type_system_report.specs.declared.fault.FaultKindOf.TheVariants as k
use Rattle.type_system_interfaces.specs.Arguments.{argument_named, is_required}
use Rattle.type_system_report.specs.Fault.{FaultValue, fault_if}
use Rattle.type_system_interfaces.specs.Pair.{PairValue, given_argument, wanted_field}

-- a required argument, and the field has none of its name
abbrev pub is_added : {S : Type 0} → Field S → Argument S → Bool
is_added wanted a = is_required a && is_none (argument_named (string_bytes a.name) wanted)

module _ {S : Type 0} (p : PairValue S) where
  -- an argument of the type's field, if it is required and the interface's field lacks it
  abbrev pub added_argument : Argument S → List FaultValue
  added_argument a = fault_if (is_added p.wanted a) (given_argument p (string_bytes a.name)) (k.AddedArgument (wanted_field p))

  abbrev pub added_arguments : List FaultValue
  added_arguments = flat_map added_argument (arguments_of p.given)
