use Rattle.std.proofs.Common.{◌≡◌, ◌++◌, take}
use Rattle.std.specs.List.{flat_map}
use Rattle.type_system_report.specs.Fault.{reported}
use Rattle.type_system_interfaces.specs.InterfaceArguments.{unmet_argument}
use Rattle.type_system_interfaces.specs.Pair.{pair_value}
use Rattle.type_system_interfaces.proofs.interface_arguments.report_unmet_arguments.Given as goal

-- what is found at those that were seen was reported
abbrev pub invariant-loop-wanted : goal.invariant-loop-wanted
invariant-loop-wanted g l = reported l.faults ≡ reported l.fn.faults ++ flat_map (unmet_argument (pair_value l.pair)) (take l.wanted-index l.wanted-items)
