use Rattle.std.proofs.Common.{◌+◌, ◌<◌, length}
use Rattle.graph_ways.specs.Onward.{IsOutward, LeadBack}
use Rattle.graph_ways.proofs.way.outward.Given as goal

-- as many links as the graph has nodes are enough
abbrev pub invariant-loop : goal.invariant-loop
invariant-loop l = record {
  outward : IsOutward l.graph l.ways l.first.from l.path;
  near : (h : LeadBack l.graph l.ways) → h.sound.depth l.path.end + l.counter < length l.graph;
}
