use Rattle.std.proofs.Common.{◌≡◌, drop}
use Rattle.std.specs.Prelude.{find}
use Rattle.std.specs.List.{flat_map}
use Rattle.schema_validation.specs.Names.{field_inputs}
use Rattle.schema_validation.proofs.first.first_input_of_fields.Given as goal

abbrev pub invariant-loop-field : goal.invariant-loop-field
invariant-loop-field g l = find (g.T.NameTest.fails_at l.test) (flat_map field_inputs l.fields) ≡ find (g.T.NameTest.fails_at l.test) (flat_map field_inputs (drop l.field-index l.fields))
