use Rattle.std.proofs.Common.{arith}
use Rattle.schema_validation.specs.Names.{field_names}
use Rattle.schema_validation.proofs.Finds.{found_here, not_here}
use Rattle.schema_validation.proofs.first.first_name_of_fields.Goals as goal

pub returns-in-Some : goal.returns-in-Some
returns-in-Some g c =
    found_here (g.T.NameTest.fails_at c.args.test.now) field_names c.args.fields.now c.loop-field.field-index c.field-item.result (omega arith) c.field-item.is c.loop-field.invariant c.in-Some.name.now c.in-Some.ensures

pub loop-field-preserved : goal.loop-field-preserved
loop-field-preserved g c =
    not_here (g.T.NameTest.fails_at c.args.test.now) field_names c.args.fields.now c.loop-field.field-index c.field-item.result (omega arith) c.field-item.is c.loop-field.invariant c.in_default.ensures
