use Rattle.std.proofs.Common.{take}
use Rattle.std.specs.List.{flat_map}
use Rattle.sdl_mending.specs.Touched.{Grows, named_by}
use Rattle.sdl_mending.proofs.touched.add_named.Given as goal

-- those of the reasons that were seen
abbrev pub invariant-loop-reason : goal.invariant-loop-reason
invariant-loop-reason l = Grows (flat_map named_by (take l.reason-index l.reasons)) l.initial.types l.types
