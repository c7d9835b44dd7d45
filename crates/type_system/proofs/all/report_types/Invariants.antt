use Rattle.std.proofs.Common.{◌≡◌, ◌++◌, map, take}
use Rattle.std.specs.List.{flat_map}
use Rattle.type_system.specs.All.{type_faults}
use Rattle.type_system_report.specs.Fault.{reported}
use Rattle.type_system.proofs.all.report_types.Given as goal

-- what is found at those that were seen was reported
abbrev pub invariant-loop-meta : goal.invariant-loop-meta
invariant-loop-meta g l =
    reported l.faults ≡ reported l.fn.faults ++ flat_map (type_faults l.schema) (map (λ r. r.now) (take l.meta-index l.types))
