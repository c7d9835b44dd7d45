use Rattle.std.proofs.Common.{◌<◌, map, length}
use Rattle.std.specs.List.{All}
use Rattle.meta.specs.Places.{IsFirst}
use Rattle.meta.proofs.places.slots_of.Given as goal

abbrev pub invariant-loop-item : goal.invariant-loop-item
invariant-loop-item g l = (0 < length l.slots.items) × All (IsFirst (map g.T.Named.name_of l.items)) l.slots.items
