use Rattle.std.proofs.Common.{◌<◌, ◌-◌, length}
use Rattle.graph_ways.specs.Onward.{IsClimb}
use Rattle.graph_ways.specs.Order.{IsFrom, rank}
use Rattle.graph_ways.proofs.way.climb.Given as goal

abbrev pub invariant-loop-place : goal.invariant-loop-place
invariant-loop-place l = record {
  climbed : IsClimb l.graph l.node l.links.items l.place;
  inside : l.place < length l.graph;
  from : IsFrom l.order l.above l.place;
}

abbrev pub decreases-loop-place : goal.decreases-loop-place
decreases-loop-place l = rank l.order l.above - rank l.order l.place
