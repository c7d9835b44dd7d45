-- What holds at each step of the search that makes an order.
use Rattle.std.specs.Prelude.{◌≡◌, ◌<◌, ◌≤◌, ◌+◌, ◌⊎◌, ◌++◌, Bool, true, false, ℕ, List, [], ◌∷◌, Option, None, Some}
use Rattle.std.specs.Prelude.{length, reverse, slice_get}
use Rattle.type_system_circles.specs.declared.graph.Edge.{Edge}
use Rattle.type_system_circles.specs.declared.graph.Link.{Link}
use Rattle.type_system_circles.specs.declared.graph.Node.{Node}
use Rattle.type_system_circles.specs.Graph.{Stands, edges_of}
use Rattle.type_system_circles.specs.Sound.{path_to}
use Rattle.graph_ways.specs.declared.order.Search.{Search}
use Rattle.graph_ways.specs.Order.{number_at}

abbrev pub IsMet : List Bool → ℕ → Type 0
IsMet met v = slice_get met v ≡ Some true

-- each edge of the node was looked at
abbrev pub IsLooked : List Node → List ℕ → ℕ → Type 0
IsLooked graph looked v = (n : ℕ) → slice_get looked v ≡ Some n → length (edges_of graph v) ≤ n

-- the number of nodes that were not met
abbrev pub unmet : List Bool → ℕ
unmet [] = 0
unmet (true ∷ met) = unmet met
unmet (false ∷ met) = unmet met + 1

abbrev pub IsPlace : List ℕ → ℕ → ℕ → Type 0
IsPlace ns i v = slice_get ns i ≡ Some v

-- The node was found by a link from a node that stands after the one place, and not after the other.
pub record FoundBetween (graph : List Node) (ns : List ℕ) (found : List (Option Link)) (w j i : ℕ) : Type 0 where
  pub link : Link
  pub is : slice_get found w ≡ Some (Some link)
  pub stands : Stands graph link
  pub leads : link.edge.target ≡ w
  pub place : ℕ
  pub from : IsPlace ns place link.from
  pub above : j < place
  pub below : place ≤ i

-- The node stands before the place, or the place is one of what was found from the node.
pub record LeadsBack (ns firsts : List ℕ) (i w : ℕ) : Type 0 where
  pub place : ℕ
  pub is : IsPlace ns place w
  pub back : (place < i) ⊎ ((number_at firsts w ≤ i) × (i ≤ place))

-- The nodes that were met, in the order in which they would be left if there were no more edges.
pub record Ordered (graph : List Node) (ns firsts : List ℕ) (found : List (Option Link)) (looked : List ℕ) : Type 0 where
  pub simple : (i j v : ℕ) → IsPlace ns i v → IsPlace ns j v → i ≡ j
  pub inside : (i v : ℕ) → IsPlace ns i v → v < length graph
  pub own : (i v : ℕ) → IsPlace ns i v → number_at firsts v ≤ i
  pub nested : (i j v w : ℕ) → IsPlace ns i v → IsPlace ns j w → number_at firsts v ≤ j → j ≤ i
      → number_at firsts v ≤ number_at firsts w
  pub linked : (i j v w : ℕ) → IsPlace ns i v → IsPlace ns j w → number_at firsts v ≤ j → j ≤ i
      → (v ≡ w) ⊎ FoundBetween graph ns found w j i
  -- the first edges of a node, as many as were looked at, lead to nodes that were met
  pub back : (v n k : ℕ) (e : Edge) → slice_get looked v ≡ Some n → k < n → slice_get (edges_of graph v) k ≡ Some e
      → (i : ℕ) × IsPlace ns i v × LeadsBack ns firsts i e.target

-- Nodes were left in this order, and these are in work, the last first.
pub record Sound (graph : List Node) (left work : List ℕ) (met : List Bool) (ranks firsts : List ℕ) (found : List (Option Link))
    (looked : List ℕ) : Type 0 where
  pub ordered : Ordered graph (left ++ work) firsts found looked
  pub met_sized : length met ≡ length graph
  pub ranks_sized : length ranks ≡ length graph
  pub firsts_sized : length firsts ≡ length graph
  pub found_sized : length found ≡ length graph
  pub looked_sized : length looked ≡ length graph
  pub counted : unmet met + (length left + length work) ≡ length graph
  pub placed : (v : ℕ) → IsMet met v → (i : ℕ) × IsPlace (left ++ work) i v
  pub marked : (i v : ℕ) → IsPlace (left ++ work) i v → IsMet met v
  pub early : (i v : ℕ) → IsPlace (left ++ work) i v → number_at firsts v ≤ length left
  pub ranked : (i v : ℕ) → IsPlace left i v → slice_get ranks v ≡ Some i
  pub done : (i v : ℕ) → IsPlace left i v → IsLooked graph looked v
  pub bounded : (v n : ℕ) → slice_get looked v ≡ Some n → n ≤ length (edges_of graph v)

abbrev pub SoundWith : List Node → List ℕ → Search → Type 0
SoundWith graph work s =
    Sound graph s.order.nodes.items work s.met.items s.order.ranks.items s.order.firsts.items s.order.found_by.items s.order.looked.items

-- The links lead to this node.
pub record Along (graph : List Node) (u : ℕ) (s : Search) : Type 0 where
  pub sound : SoundWith graph (reverse (path_to s.trail.items u)) s

-- There are no links, and no node is in work.
pub record Idle (graph : List Node) (s : Search) : Type 0 where
  pub sound : SoundWith graph [] s
  pub none : s.trail.items ≡ []

abbrev pub Ends : List Node → Option ℕ → Search → Type 0
Ends graph None s = Idle graph s
Ends graph (Some u) s = Along graph u s

-- Each node that was met still is.
abbrev pub Keeps : Search → Search → Type 0
Keeps old new = (v : ℕ) → IsMet old.met.items v → IsMet new.met.items v
