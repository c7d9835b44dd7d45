use Rattle.std.proofs.Common.{◌≡◌, ◌++◌, length, map, string_bytes}
use Rattle.type_system_interfaces.specs.Entries.{each_entry}
use Rattle.type_system_report.specs.Fault.{reported}
use Rattle.type_system_interfaces.specs.ImplementedTypes.{wrong_entry, wrong_interfaces}
use Rattle.type_system_interfaces.proofs.implemented_types.report_wrong_interfaces.Given as goal

-- with what is found at the entries that are left, all was reported
abbrev pub invariant-loop-name : goal.invariant-loop-name
invariant-loop-name g l =
    reported l.faults ++ each_entry (wrong_entry l.schema l.meta) (map string_bytes l.rest) ≡ reported l.fn.faults ++ wrong_interfaces l.schema l.meta

abbrev pub decreases-loop-name : goal.decreases-loop-name
decreases-loop-name g l = length l.rest
