use Rattle.std.proofs.Common.{take}
use Rattle.std.specs.List.{flat_map}
use Rattle.sdl_mending.specs.Touched.{Grows, touched_in}
use Rattle.sdl_mending.proofs.touched.add_touched.Given as goal

-- those of the definitions that were seen
abbrev pub invariant-loop-definition : goal.invariant-loop-definition
invariant-loop-definition l = Grows (flat_map (touched_in l.places) (take l.definition-index l.document)) l.initial.types l.types
