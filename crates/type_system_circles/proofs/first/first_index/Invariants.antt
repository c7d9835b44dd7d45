use Rattle.std.proofs.Common.{◌<◌, length}
use Rattle.type_system_circles.proofs.Firsts.{HasFirst}
use Rattle.type_system_circles.proofs.first.first_index.Given as goal

abbrev pub invariant-loop-index : goal.invariant-loop-index
invariant-loop-index v = (v.first < length v.links) × HasFirst v.links v.first v.index
