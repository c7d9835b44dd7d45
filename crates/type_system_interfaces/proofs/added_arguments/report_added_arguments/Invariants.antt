use Rattle.std.proofs.Common.{◌≡◌, ◌++◌, take}
use Rattle.std.specs.List.{flat_map}
use Rattle.type_system_report.specs.Fault.{reported}
use Rattle.type_system_interfaces.specs.AddedArguments.{added_argument}
use Rattle.type_system_interfaces.specs.Pair.{pair_value}
use Rattle.type_system_interfaces.proofs.added_arguments.report_added_arguments.Given as goal

-- what is found at those that were seen was reported
abbrev pub invariant-loop-given : goal.invariant-loop-given
invariant-loop-given g l = reported l.faults ≡ reported l.fn.faults ++ flat_map (added_argument (pair_value l.pair)) (take l.given-index l.given-items)
