use Rattle.std.proofs.Common.{◌≡◌, ◌++◌, take}
use Rattle.sdl_mending.specs.Touched.{places}
use Rattle.sdl_mending.proofs.places.add_places.Given as goal

-- those of the reasons that were seen
abbrev pub invariant-loop-reason : goal.invariant-loop-reason
invariant-loop-reason l = l.found.items ≡ l.initial.found.items ++ places (take l.reason-index l.reasons)
