use Rattle.std.proofs.Common.{◌≡◌, ◌++◌, [], take}
use Rattle.sdl_directives.specs.Judged.{judged}
use Rattle.sdl_directives.specs.Earlier.{each_after}
use Rattle.sdl_directives.specs.Fault.{fault_values}
use Rattle.sdl_directives.specs.Known.{definitions_of}
use Rattle.sdl_directives.proofs.judging.report_listed.Given as goal

-- those of what was seen
abbrev pub invariant-loop-index : goal.invariant-loop-index
invariant-loop-index l = fault_values l.faults.items ≡ fault_values l.initial.faults.items ++ each_after (judged (definitions_of l.known) l.location) [] (take l.index l.directives)
