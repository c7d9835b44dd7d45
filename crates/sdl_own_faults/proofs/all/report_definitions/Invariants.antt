use Rattle.std.proofs.Common.{◌≡◌, ◌++◌, take}
use Rattle.std.specs.List.{flat_map}
use Rattle.sdl_own_faults.specs.Parts.{definitions_of}
use Rattle.sdl_own_faults.specs.Fault.{reported}
use Rattle.sdl_own_faults.specs.All.{definition_faults}
use Rattle.sdl_own_faults.proofs.all.report_definitions.Given as goal

-- what is found at those that were seen was reported
abbrev pub invariant-loop-definition : goal.invariant-loop-definition
invariant-loop-definition l = reported l.faults ≡ reported l.initial.faults ++ flat_map (definition_faults (definitions_of l.extensions) (definitions_of l.listing)) (take l.definition-index l.document)
