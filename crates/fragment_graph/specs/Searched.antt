-- What the outcome of a search says.
use Rattle.std.specs.Prelude.{ℕ, ◌<◌, List, [], length, ◌≡◌, ◌↔◌, slice_get, Some}
use Rattle.std.specs.List.{All}
use Rattle.fragment_graph.specs.declared.graph.Node.{Node}
use Rattle.fragment_graph.specs.declared.search.Colour.{Colour}
use Rattle.fragment_graph.specs.declared.search.Colour.TheVariants.{New, InWork, Finished}
use Rattle.fragment_graph.specs.declared.search.Outcome.{Outcome}
use Rattle.fragment_graph.specs.Graph.{Spreads, Path, Named, IsTrueReport, spread_count}

-- The rank of a finished node, and 0 for others.
abbrev pub rank_of : Colour → ℕ
rank_of New = 0
rank_of (InWork i) = 0
rank_of (Finished r) = r

pub record Searched (graph : List Node) (o : Outcome) : Type 0 where
  pub real : All (IsTrueReport graph) o.reports.items
  pub enough : (v : ℕ) (w : Path graph v v) → Named o.reports.items w
  -- each spread was looked at
  pub looked : o.looked ≡ spread_count graph
  -- each node has one rank, and each rank one node
  pub order_length : length o.order.items ≡ length graph
  pub rank_length : length o.ranks.items ≡ length graph
  pub ranked : (v r : ℕ) → slice_get o.ranks.items v ≡ Some r ↔ (slice_get o.order.items r ≡ Some v)
  -- without a report, the target of a spread comes before its source
  pub earlier : o.reports.items ≡ [] → (u v s r : ℕ) → Spreads graph u v → slice_get o.ranks.items u ≡ Some s
      → slice_get o.ranks.items v ≡ Some r → r < s
  -- there is no report if and only if no path leads back
  pub none : (o.reports.items ≡ []) ↔ ((v : ℕ) → Path graph v v → ⊥)
