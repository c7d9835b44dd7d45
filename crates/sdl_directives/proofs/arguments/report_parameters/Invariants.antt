use Rattle.std.proofs.Common.{◌≡◌, ◌++◌, take}
use Rattle.std.specs.List.{flat_map}
use Rattle.sdl_directives.specs.Arguments.{missing_argument}
use Rattle.sdl_directives.specs.Fault.{fault_values}
use Rattle.sdl_directives.proofs.arguments.report_parameters.Given as goal

-- those of what was seen
abbrev pub invariant-loop-parameter : goal.invariant-loop-parameter
invariant-loop-parameter l = fault_values l.faults.items ≡ fault_values l.initial.faults.items ++ flat_map (missing_argument l.defined l.directive) (take l.parameter-index l.parameters)
