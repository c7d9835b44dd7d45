use Rattle.std.proofs.Common.{◌≡◌, ◌++◌, length, map, string_bytes}
use Rattle.type_system_report.specs.Fault.{reported}
use Rattle.type_system_interfaces.specs.Entries.{each_entry}
use Rattle.type_system.specs.UniqueMembers.{repeated_member, repeated_members}
use Rattle.type_system.proofs.unique_members.report_repeated_members.Given as goal

-- with what is found at the members that are left, all was reported
abbrev pub invariant-loop-name : goal.invariant-loop-name
invariant-loop-name g l =
    reported l.faults ++ each_entry (repeated_member l.meta) (map string_bytes l.rest) ≡ reported l.fn.faults ++ repeated_members l.meta

abbrev pub decreases-loop-name : goal.decreases-loop-name
decreases-loop-name g l = length l.rest
