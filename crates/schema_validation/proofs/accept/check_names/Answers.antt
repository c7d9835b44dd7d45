use Rattle.std.proofs.Common.{◌≡◌, string_bytes}
use Rattle.schema_validation.specs.Accepted.{is_listed}
use Rattle.schema_validation.specs.Names.{all_names}
use Rattle.schema_validation.proofs.Finds.{all-if_none}
use Rattle.schema_validation.proofs.Refusals.{failing-among, failing-test}
use Rattle.schema_validation.proofs.accept.check_names.Goals as goal

pub returns-in_ok-from_str-in-Some-clause-err : goal.returns-in_ok-from_str-in-Some-clause-err
returns-in_ok-from_str-in-Some-clause-err g c = λ roots.
    let k = string_bytes c.in_ok-from_str-in-Some.field-0 in
    let same : k ≡ c.in-Some.name.now = c.in_ok-from_str-in-Some.ensures.ok in
    let among = failing-among (is_listed c.args.table.now.types.now) (all_names c.args.table.now.types.now) c.in-Some.name.now k same c.in-Some.ensures in
    (among, failing-test (is_listed c.args.table.now.types.now) (all_names c.args.table.now.types.now) c.in-Some.name.now k same c.in-Some.ensures)

pub returns-in-None-clause-ok : goal.returns-in-None-clause-ok
returns-in-None-clause-ok g c = all-if_none (is_listed c.args.table.now.types.now) (all_names c.args.table.now.types.now) c.in-None.ensures
