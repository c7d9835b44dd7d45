use Rattle.std.proofs.Common.{◌≡◌, drop}
use Rattle.std.specs.List.{list_all}
use Rattle.variable_values.specs.Inputs.{has_input_type, definitions_of}
use Rattle.variable_values.proofs.inputs.has_input_types.Given as goal

abbrev pub invariant-loop-definition : goal.invariant-loop-definition
invariant-loop-definition g l = list_all (has_input_type l.schema) (definitions_of l.operation) ≡ list_all (has_input_type l.schema) (drop l.definition-index l.definition-items)
