use Rattle.std.proofs.Common.{◌≡◌, string_bytes}
use Rattle.schema_validation.specs.Accepted.{is_listed, is_object_listed}
use Rattle.schema_validation.specs.Names.{all_members}
use Rattle.schema_validation.proofs.Finds.{all-if_none, all-at}
use Rattle.schema_validation.proofs.Refusals.{failing-among, failing-test, all-members}
use Rattle.schema_validation.proofs.accept.check_members.Goals as goal

pub returns-in_ok-from_str-in-Some-clause-err : goal.returns-in_ok-from_str-in-Some-clause-err
returns-in_ok-from_str-in-Some-clause-err g c = λ roots.
    let k = string_bytes c.in_ok-from_str-in-Some.field-0 in
    let same : k ≡ c.in-Some.name.now = c.in_ok-from_str-in-Some.ensures.ok in
    let among = failing-among (is_object_listed c.args.table.now.types.now) (all_members c.args.table.now.types.now) c.in-Some.name.now k same c.in-Some.ensures in
    (among, all-at (is_listed c.args.table.now.types.now) (all_members c.args.table.now.types.now) k (all-members (is_listed c.args.table.now.types.now) c.args.table.now.types.now c.requires) among, failing-test (is_object_listed c.args.table.now.types.now) (all_members c.args.table.now.types.now) c.in-Some.name.now k same c.in-Some.ensures)

pub returns-in-None-clause-ok : goal.returns-in-None-clause-ok
returns-in-None-clause-ok g c = all-if_none (is_object_listed c.args.table.now.types.now) (all_members c.args.table.now.types.now) c.in-None.ensures
