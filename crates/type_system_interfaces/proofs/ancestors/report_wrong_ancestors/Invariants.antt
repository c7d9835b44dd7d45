use Rattle.std.proofs.Common.{◌≡◌, ◌++◌, length, map, string_bytes}
use Rattle.type_system_report.specs.Fault.{reported}
use Rattle.type_system_interfaces.specs.Entries.{each_entry}
use Rattle.type_system_interfaces.specs.Ancestors.{wrong_ancestors_at, wrong_ancestors}
use Rattle.type_system_interfaces.proofs.ancestors.report_wrong_ancestors.Given as goal

-- with what is found at the interfaces that are left, all was reported
abbrev pub invariant-loop-name : goal.invariant-loop-name
invariant-loop-name g l =
    reported l.faults ++ each_entry (wrong_ancestors_at l.meta l.schema) (map string_bytes l.rest) ≡ reported l.fn.faults ++ wrong_ancestors l.meta l.schema

abbrev pub decreases-loop-name : goal.decreases-loop-name
decreases-loop-name g l = length l.rest
