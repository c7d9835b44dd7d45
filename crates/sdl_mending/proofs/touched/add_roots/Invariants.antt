use Rattle.std.proofs.Common.{take}
use Rattle.sdl_mending.specs.Touched.{Grows, root_names}
use Rattle.sdl_mending.proofs.touched.add_roots.Given as goal

-- those of the roots that were seen
abbrev pub invariant-loop-root : goal.invariant-loop-root
invariant-loop-root l = Grows (root_names (take l.root-index l.roots)) l.initial.types l.types
