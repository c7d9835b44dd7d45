use Rattle.std.proofs.Common.{◌≡◌, ◌++◌, take}
use Rattle.std.specs.List.{flat_map}
use Rattle.sdl_own_faults.specs.Fault.{reported}
use Rattle.sdl_own_faults.specs.ReservedNames.{reserved_value}
use Rattle.sdl_own_faults.proofs.members.report_values.Given as goal

-- what is found at those that were seen was reported
abbrev pub invariant-loop-value : goal.invariant-loop-value
invariant-loop-value l = reported l.faults ≡ reported l.initial.faults ++ flat_map (reserved_value l.of) (take l.value-index l.values)
