use Rattle.std.proofs.Common.{◌<◌, ℕ}
use Rattle.graph_ways.specs.Leaving.{Idle, IsMet}
use Rattle.graph_ways.proofs.order.order_of.Given as goal

-- no node is in work, and each that was visited was met
abbrev pub invariant-loop-root : goal.invariant-loop-root
invariant-loop-root l = record {
  idle : Idle l.graph l.search;
  begun : (v : ℕ) → v < l.root → IsMet l.search.met.items v;
}
