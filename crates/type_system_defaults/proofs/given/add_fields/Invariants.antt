use Rattle.std.proofs.Common.{◌≡◌, ◌++◌, take}
use Rattle.std.specs.List.{flat_map}
use Rattle.type_system_defaults.specs.Given.{given_values, field_defaults}
use Rattle.type_system_defaults.proofs.given.add_fields.Given as goal

-- those of the items that were seen were appended
abbrev pub invariant-loop-field : goal.invariant-loop-field
invariant-loop-field g l = given_values l.given ≡ given_values l.fn.given ++ flat_map (field_defaults l.of) (take l.field-index l.fields)
