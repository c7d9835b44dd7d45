use Rattle.std.proofs.Common.{◌≡◌, ◌++◌, length, map, string_bytes}
use Rattle.type_system_interfaces.specs.Entries.{each_entry}
use Rattle.type_system_report.specs.Fault.{reported}
use Rattle.type_system_interfaces.specs.InterfaceFields.{unmet_entry, unmet_interfaces}
use Rattle.type_system_interfaces.proofs.interface_fields.report_unmet_interfaces.Given as goal

-- with what is found at the interfaces that are left, all was reported
abbrev pub invariant-loop-name : goal.invariant-loop-name
invariant-loop-name g l =
    reported l.faults ++ each_entry (unmet_entry l.schema l.meta) (map string_bytes l.rest) ≡ reported l.fn.faults ++ unmet_interfaces l.schema l.meta

abbrev pub decreases-loop-name : goal.decreases-loop-name
decreases-loop-name g l = length l.rest
