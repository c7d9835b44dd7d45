use Rattle.std.proofs.Common.{◌≡◌, ◌++◌, take}
use Rattle.std.specs.List.{flat_map}
use Rattle.type_system_report.specs.Fault.{reported}
use Rattle.type_system.specs.ReservedValues.{reserved_value}
use Rattle.type_system.proofs.reserved_values.report_reserved_values.Given as goal

-- what is found at those that were seen was reported
abbrev pub invariant-loop-value : goal.invariant-loop-value
invariant-loop-value g l = reported l.faults ≡ reported l.fn.faults ++ flat_map (reserved_value l.of) (take l.value-index l.value-items)
