use Rattle.std.proofs.Common.{◌≡◌, ◌++◌, string_bytes, take}
use Rattle.std.specs.List.{flat_map}
use Rattle.type_system_report.specs.Fault.{reported}
use Rattle.type_system_interfaces.specs.InterfaceFields.{unmet_field}
use Rattle.type_system_interfaces.proofs.interface_fields.report_unmet_interface.Given as goal

-- what is found at those that were seen was reported
abbrev pub invariant-loop-field : goal.invariant-loop-field
invariant-loop-field g l =
    reported l.faults ≡ reported l.fn.faults ++ flat_map (unmet_field l.schema l.meta (string_bytes l.interface.name)) (take l.field-index l.field-items)
