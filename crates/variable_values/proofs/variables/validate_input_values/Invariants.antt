use Rattle.events.specs.Node.{VariableEntry}
use Rattle.variable_values.specs.Messages.{OfDefinition}
use Rattle.variable_values.proofs.InTurns.{Done}
use Rattle.variable_values.proofs.variables.validate_input_values.Given as goal

abbrev pub invariant-loop-name : goal.invariant-loop-name
invariant-loop-name g l = Done (λ i (d : VariableEntry g.row.S.Denot). OfDefinition l.schema g.S.CheckedScalar.may_answer g.S.ScalarValue.text g.S.ScalarValue.str_of l.values d) l.name-items l.name-index l.errors.items
