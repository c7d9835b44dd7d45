use Rattle.std.proofs.Common.{◌≡◌, map, string_bytes}
use Rattle.schema_validation.specs.Accepted.{is_listed, is_input_listed}
use Rattle.schema_validation.specs.Names.{argument_type}
use Rattle.schema_validation.proofs.Finds.{all-if_none, all-at}
use Rattle.schema_validation.proofs.Refusals.{failing-among, failing-test}
use Rattle.schema.proofs.model.schemas.SchemaTypeOf.check_input.Goals as goal

pub returns-in_ok-from_str-in-Some-clause-err : goal.returns-in_ok-from_str-in-Some-clause-err
returns-in_ok-from_str-in-Some-clause-err g c =
    let test = is_input_listed c.args.self.now.types in
    let names = map argument_type c.args.arguments.now in
    let k = string_bytes c.in_ok-from_str-in-Some.field-0 in
    let same : k ≡ c.in-Some.name.now = c.in_ok-from_str-in-Some.ensures.ok in
    let among = failing-among test names c.in-Some.name.now k same c.in-Some.ensures in
    (among, all-at (is_listed c.args.self.now.types) names k c.requires among, failing-test test names c.in-Some.name.now k same c.in-Some.ensures)

pub returns-in-None-clause-ok : goal.returns-in-None-clause-ok
returns-in-None-clause-ok g c = all-if_none (is_input_listed c.args.self.now.types) (map argument_type c.args.arguments.now) c.in-None.ensures
