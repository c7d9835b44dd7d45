use Rattle.std.proofs.Common.{◌≡◌, ◌++◌, take}
use Rattle.std.specs.List.{flat_map}
use Rattle.type_system_report.specs.Fault.{reported}
use Rattle.type_system.specs.OutputTypes.{wrong_output_type}
use Rattle.type_system.proofs.output_types.report_wrong_output_types.Given as goal

-- what is found at those that were seen was reported
abbrev pub invariant-loop-field : goal.invariant-loop-field
invariant-loop-field g l = reported l.faults ≡ reported l.fn.faults ++ flat_map (wrong_output_type l.schema l.of) (take l.field-index l.field-items)
