use Rattle.std.proofs.Common.{◌≡◌, true, subst, sym}
use Rattle.variable_values.specs.Inputs.{is_input_in}
use Rattle.variable_values.proofs.variables.messages_of.Goals as goal

pub messages_of_value-requires : goal.messages_of_value-requires
messages_of_value-requires g c = subst (λ t. is_input_in c.args.schema.now t.name ≡ true) (sym c.as_borrowed.ensures) c.requires
