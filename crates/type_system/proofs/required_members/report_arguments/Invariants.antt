use Rattle.std.proofs.Common.{◌≡◌, ◌++◌, take}
use Rattle.std.specs.List.{flat_map}
use Rattle.type_system_report.specs.Fault.{reported}
use Rattle.type_system.specs.RequiredMembers.{deprecated_argument}
use Rattle.type_system.proofs.required_members.report_arguments.Given as goal

-- what is found at those that were seen was reported
abbrev pub invariant-loop-argument : goal.invariant-loop-argument
invariant-loop-argument g l = reported l.faults ≡ reported l.fn.faults ++ flat_map (deprecated_argument l.of l.field) (take l.argument-index l.arguments)
