use Rattle.std.proofs.Common.{◌≡◌, ◌++◌, [], take}
use Rattle.language_types.specs.References.{list_copied}
use Rattle.sdl_directives.specs.Earlier.{each_after}
use Rattle.sdl_own_faults.specs.Fault.{reported}
use Rattle.sdl_own_faults.specs.ListedTypes.{wrong_entry}
use Rattle.sdl_own_faults.proofs.listed_types.report_entries.Given as goal

-- what is found at those that were seen was reported
abbrev pub invariant-loop-index : goal.invariant-loop-index
invariant-loop-index l = reported l.faults ≡ reported l.initial.faults ++ each_after (wrong_entry l.defined) [] (list_copied (take l.index l.names))
