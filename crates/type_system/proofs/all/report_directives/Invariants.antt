use Rattle.std.proofs.Common.{◌≡◌, ◌++◌, map, take}
use Rattle.std.specs.List.{flat_map}
use Rattle.type_system.specs.All.{directive_faults}
use Rattle.type_system_report.specs.Fault.{reported}
use Rattle.type_system.proofs.all.report_directives.Given as goal

-- what is found at those that were seen was reported
abbrev pub invariant-loop-directive : goal.invariant-loop-directive
invariant-loop-directive g l =
    reported l.faults ≡ reported l.fn.faults ++ flat_map directive_faults (map (λ r. r.now) (take l.directive-index l.directives))
