use Rattle.std.proofs.Common.{◌≡◌, ◌++◌, string_bytes, take}
use Rattle.std.specs.List.{flat_map}
use Rattle.type_system_report.specs.Fault.{reported}
use Rattle.type_system_interfaces.specs.Ancestors.{wrong_ancestor}
use Rattle.type_system_interfaces.proofs.ancestors.report_names.Given as goal

-- what is found at those that were seen was reported
abbrev pub invariant-loop-name : goal.invariant-loop-name
invariant-loop-name g l =
    reported l.faults ≡ reported l.fn.faults ++ flat_map (λ x. wrong_ancestor l.meta l.interface (string_bytes x)) (take l.name-index l.names)
