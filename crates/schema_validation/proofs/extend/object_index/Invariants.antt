use Rattle.std.proofs.Common.{◌≡◌, drop}
use Rattle.schema_validation.specs.Accepted.{is_object_listed}
use Rattle.schema_validation.proofs.extend.object_index.Given as goal

abbrev pub invariant-loop-i : goal.invariant-loop-i
invariant-loop-i g l = is_object_listed l.types l.name ≡ is_object_listed (drop l.i l.types) l.name
