use Rattle.std.proofs.Common.{◌≡◌, drop}
use Rattle.type_system.specs.SomeFields.{are_introspections}
use Rattle.type_system.proofs.some_fields.are_introspections.Given as goal

abbrev pub invariant-loop-field : goal.invariant-loop-field
invariant-loop-field g l =
    are_introspections l.schema l.type_name l.fields ≡ are_introspections l.schema l.type_name (drop l.field-index l.fields)
