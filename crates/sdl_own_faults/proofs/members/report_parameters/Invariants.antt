use Rattle.std.proofs.Common.{◌≡◌, ◌++◌, take}
use Rattle.std.specs.List.{flat_map}
use Rattle.type_system_report.specs.Fault.{coordinate_value}
use Rattle.sdl_own_faults.specs.Fault.{reported}
use Rattle.sdl_own_faults.specs.Members.{parameter_faults}
use Rattle.sdl_own_faults.proofs.members.report_parameters.Given as goal

-- what is found at those that were seen was reported
abbrev pub invariant-loop-parameter : goal.invariant-loop-parameter
invariant-loop-parameter l = reported l.faults ≡ reported l.initial.faults ++ flat_map (parameter_faults (coordinate_value l.of)) (take l.parameter-index l.parameters)
