use Rattle.std.proofs.Common.{◌≡◌, ℕ, length, []}
use Rattle.fragment_graph.specs.Graph.{spreads_of, spread_count}
use Rattle.fragment_graph.proofs.document_graph.empty_nodes.Given as goal

abbrev pub invariant-loop-number : goal.invariant-loop-number
invariant-loop-number l = (length l.nodes.items ≡ l._number) × ((k : ℕ) → spreads_of l.nodes.items k ≡ []) × (spread_count l.nodes.items ≡ 0)
