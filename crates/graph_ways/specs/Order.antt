-- The order in which a depth-first search leaves the nodes of a graph.
use Rattle.std.specs.Prelude.{◌≡◌, ◌<◌, ◌≤◌, ◌⊎◌, ℕ, List, length, Some, slice_get}
use Rattle.std.specs.Option.{option_map_or}
use Rattle.type_system_circles.specs.declared.graph.Link.{Link}
use Rattle.type_system_circles.specs.declared.graph.Node.{Node}
use Rattle.type_system_circles.specs.Graph.{Stands, edges_of}
use Rattle.graph_ways.specs.declared.order.Order.{Order}

abbrev pub number_at : List ℕ → ℕ → ℕ
number_at ns v = option_map_or (λ n. n) (slice_get ns v) 0

-- the index of a node in the order
abbrev pub rank : Order → ℕ → ℕ
rank o v = number_at o.ranks.items v

-- the least rank of what was found from a node
abbrev pub first : Order → ℕ → ℕ
first o v = number_at o.firsts.items v

-- the second node was found from the first, or is it
abbrev pub IsFrom : Order → ℕ → ℕ → Type 0
IsFrom o v w = (first o v ≤ rank o w) × (rank o w ≤ rank o v)

-- the second node was found by a link from a node that was found from the first, or from the first itself
abbrev pub IsFoundBelow : List Node → Order → ℕ → ℕ → Type 0
IsFoundBelow graph o v w =
    (l : Link) × (slice_get o.found_by.items w ≡ Some (Some l)) × Stands graph l × (l.edge.target ≡ w)
    × (rank o w < rank o l.from) × (rank o l.from ≤ rank o v)

pub record IsOrder (graph : List Node) (o : Order) : Type 0 where
  pub sized : length o.nodes.items ≡ length graph
  pub ranks_sized : length o.ranks.items ≡ length graph
  pub firsts_sized : length o.firsts.items ≡ length graph
  pub found_sized : length o.found_by.items ≡ length graph
  pub placed : (v : ℕ) → v < length graph → slice_get o.nodes.items (rank o v) ≡ Some v
  pub ranked : (k v : ℕ) → slice_get o.nodes.items k ≡ Some v → (v < length graph) × (rank o v ≡ k)
  pub own : (v : ℕ) → v < length graph → first o v ≤ rank o v
  -- what was found from a node that was found from another was found from this, too
  pub nested : (v w : ℕ) → v < length graph → w < length graph → IsFrom o v w → first o v ≤ first o w
  -- an edge leads to a node that was left earlier, or back to one from which its own was found
  pub back : (l : Link) → Stands graph l → (rank o l.edge.target < rank o l.from) ⊎ IsFrom o l.edge.target l.from
  pub found : (v w : ℕ) → v < length graph → w < length graph → IsFrom o v w → (v ≡ w) ⊎ IsFoundBelow graph o v w
  pub looked_sized : length o.looked.items ≡ length graph
  pub looked : (v n : ℕ) → slice_get o.looked.items v ≡ Some n → n ≡ length (edges_of graph v)
