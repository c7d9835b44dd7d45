use Rattle.std.proofs.Common.{ap, ◌∙◌}
use Rattle.variable_values.specs.Inputs.{is_input_in}
use Rattle.variable_values.proofs.rows.type_of_field.Goals as goal

pub returns-clause-known : goal.returns-clause-known
returns-clause-known g c = ap (λ s. is_input_in c.args.schema.now s.name) c.as_borrowed.ensures ∙ c.requires
