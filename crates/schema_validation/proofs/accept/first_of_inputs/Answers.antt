use Rattle.std.proofs.Common.{◌∙◌, sym}
use Rattle.std.specs.List.{flat_map}
use Rattle.schema_validation.specs.Names.{inputs_in, added_inputs}
use Rattle.schema_validation.proofs.Finds.{find-append-Some, find-append-None}
use Rattle.schema_validation.proofs.accept.first_of_inputs.Goals as goal

pub returns-in-Some : goal.returns-in-Some
returns-in-Some g c = find-append-Some (g.T.NameTest.fails_at c.args.test.now) (flat_map inputs_in c.args.types.now) added_inputs c.in-Some.name.now c.in-Some.ensures

pub returns : goal.returns
returns g c = c.first_added_input.ensures ∙ sym (find-append-None (g.T.NameTest.fails_at c.args.test.now) (flat_map inputs_in c.args.types.now) added_inputs c.in_default.ensures)
