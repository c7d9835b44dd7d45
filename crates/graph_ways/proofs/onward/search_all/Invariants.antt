use Rattle.std.proofs.Common.{◌-◌, length}
use Rattle.graph_ways.specs.Backwards.{Idle}
use Rattle.graph_ways.proofs.onward.search_all.Given as goal

abbrev pub invariant-loop-done : goal.invariant-loop-done
invariant-loop-done l = Idle l.graph l.order (length l.graph - l.done) l.search
