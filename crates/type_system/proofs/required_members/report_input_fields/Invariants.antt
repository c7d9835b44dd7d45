use Rattle.std.proofs.Common.{◌≡◌, ◌++◌, take}
use Rattle.std.specs.List.{flat_map}
use Rattle.type_system_report.specs.Fault.{reported}
use Rattle.type_system.specs.RequiredMembers.{deprecated_input_field}
use Rattle.type_system.proofs.required_members.report_input_fields.Given as goal

-- what is found at those that were seen was reported
abbrev pub invariant-loop-field : goal.invariant-loop-field
invariant-loop-field g l = reported l.faults ≡ reported l.fn.faults ++ flat_map (deprecated_input_field l.of) (take l.field-index l.fields)
