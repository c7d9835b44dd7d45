use Rattle.std.proofs.Common.{◌≡◌, map, take}
use Rattle.std.specs.List.{flat_map}
use Rattle.variable_usages.specs.InReachUses.{kept_uses}
use Rattle.variable_usages.specs.Uses.{use_of}
use Rattle.variable_usages.proofs.uses.list_uses.Given as goal

abbrev pub invariant-loop-place : goal.invariant-loop-place
invariant-loop-place l = map use_of l.found.items ≡ flat_map (kept_uses l.all) (take l.place-index l.places)
