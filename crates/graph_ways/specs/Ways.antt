-- Ways in a graph from a node back to it.
use Rattle.std.specs.Prelude.{◌≡◌, ◌<◌, ◌==◌, ℕ, List, length, map, filter, Some, slice_get}
use Rattle.std.specs.List.{flat_map, range_with_len}
use Rattle.type_system_circles.specs.declared.graph.Edge.{Edge}
use Rattle.type_system_circles.specs.declared.graph.Link.{Link}
use Rattle.type_system_circles.specs.declared.graph.Node.{Node}
use Rattle.type_system_circles.specs.Graph.{IsWalk, edges_of}

-- links, at least one, that lead from the node back to it
pub record IsWayBack (graph : List Node) (root : ℕ) (ls : List Link) : Type 0 where
  pub walk : IsWalk graph root ls root
  pub some : 0 < length ls

abbrev pub HasNoWayBack : List Node → ℕ → Type 0
HasNoWayBack graph root = (ls : List Link) → IsWayBack graph root ls → ⊥

abbrev pub link_from : ℕ → Edge → Link
link_from v e = record { from = v; edge = e }

-- the links that lead from a node
abbrev pub links_from : List Node → ℕ → List Link
links_from graph v = map (link_from v) (edges_of graph v)

-- the links of a list that lead to a node
unfoldable pub leading_to : ℕ → List Link → List Link
leading_to v ls = filter (λ l. l.edge.target == v) ls

-- the links of the graph that lead to a node
unfoldable pub links_to : List Node → ℕ → List Link
links_to graph v = leading_to v (flat_map (links_from graph) (range_with_len 0 (length graph)))

-- Each edge was looked at once from the node that it leads from, and once from the node that it leads to.
pub record Counts (graph : List Node) (leaving entering : List ℕ) : Type 0 where
  pub looked_sized : length leaving ≡ length graph
  pub looked : (v n : ℕ) → slice_get leaving v ≡ Some n → n ≡ length (edges_of graph v)
  pub entered_sized : length entering ≡ length graph
  pub entered : (v n : ℕ) → slice_get entering v ≡ Some n → n ≡ length (links_to graph v)
