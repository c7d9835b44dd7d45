use Rattle.std.proofs.Common.{◌≡◌, string_bytes}
use Rattle.schema_validation.specs.Accepted.{is_listed, root_names}
use Rattle.schema_validation.specs.RootNames.{roots_asked}
use Rattle.schema_validation.proofs.Refusals.{failing-among, failing-test}
use Rattle.schema_validation.proofs.accept.check_roots.Goals as goal

pub returns-in-Some-clause-err : goal.returns-in-Some-clause-err
returns-in-Some-clause-err g c =
    let k = string_bytes c.in_ok-from_str.field-0 in
    let same : k ≡ c.in-Some.name.now = c.in_ok-from_str.ensures.ok in
    let names = root_names (roots_asked c.args.roots) in
    (failing-among (is_listed c.args.table.now.types.now) names c.in-Some.name.now k same c.in-Some.ensures, failing-test (is_listed c.args.table.now.types.now) names c.in-Some.name.now k same c.in-Some.ensures)
