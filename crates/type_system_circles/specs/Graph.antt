-- Graphs of numbered nodes, and the circles in them.
use Rattle.std.specs.Prelude.{◌≡◌, ◌<◌, ◌≤◌, ◌↔◌, ℕ, List, [], ◌∷◌, length, Some, slice_get}
use Rattle.std.specs.List.{All, Contains}
use Rattle.std.specs.Option.{option_map_or}
use Rattle.type_system_circles.specs.declared.graph.Edge.{Edge}
use Rattle.type_system_circles.specs.declared.graph.Link.{Link}
use Rattle.type_system_circles.specs.declared.graph.Node.{Node}
use Rattle.type_system_circles.specs.declared.search.Circle.{Circle}
use Rattle.type_system_circles.specs.declared.search.Found.{Found}

abbrev pub edges_of : List Node → ℕ → List Edge
edges_of graph v = option_map_or (λ n. n.edges.items) (slice_get graph v) []

-- each edge leads to a node
abbrev pub IsGraph : List Node → Type 0
IsGraph graph = (v k : ℕ) (e : Edge) → slice_get (edges_of graph v) k ≡ Some e → e.target < length graph

-- the link is an edge from its node
abbrev pub Stands : List Node → Link → Type 0
Stands graph l = (k : ℕ) × (slice_get (edges_of graph l.from) k ≡ Some l.edge)

-- links that lead from the one node to the other
abbrev pub IsWalk : List Node → ℕ → List Link → ℕ → Type 0
IsWalk graph u [] w = u ≡ w
IsWalk graph u (l ∷ ls) w = (l.from ≡ u) × Stands graph l × IsWalk graph l.edge.target ls w

-- links, at least one, that lead from a node back to it
pub record IsCircle (graph : List Node) (ls : List Link) : Type 0 where
  pub node : ℕ
  pub walk : IsWalk graph node ls node
  pub some : 0 < length ls

-- no link is from a node before that of this one
abbrev pub IsFirst : Link → List Link → Type 0
IsFirst l ls = All (λ x. l.from ≤ x.from) ls

-- the first link is from the first of the nodes
abbrev pub BeginsFirst : List Link → Type 0
BeginsFirst [] = Unit {0}
BeginsFirst (l ∷ ls) = IsFirst l (l ∷ ls)

-- no two links are from one node
abbrev pub IsSimple : List Link → Type 0
IsSimple ls = (i j : ℕ) (a b : Link) → slice_get ls i ≡ Some a → slice_get ls j ≡ Some b → a.from ≡ b.from → i ≡ j

-- a circle that was told has the link
abbrev pub Told : List Circle → Link → Type 0
Told circles l = (c : Circle) × Contains circles c × Contains c.links.items l

-- Each is a circle that passes no node twice and begins at its first node, and each circle of the graph has a link of
-- one of them. There is none if and only if the graph has no circle.
pub record FindsCircles (graph : List Node) (circles : List Circle) : Type 0 where
  pub real : All (λ c. IsCircle graph c.links.items) circles
  pub simple : All (λ c. IsSimple c.links.items) circles
  pub first : All (λ c. BeginsFirst c.links.items) circles
  pub enough : (ls : List Link) → IsCircle graph ls → (l : Link) × Contains ls l × Told circles l
  pub none : (circles ≡ []) ↔ ((ls : List Link) → IsCircle graph ls → ⊥)

-- What a search found, and that it looked at each edge of each node once.
pub record Searched (graph : List Node) (f : Found) : Type 0 where
  pub circles : FindsCircles graph f.circles.items
  pub sized : length f.looked.items ≡ length graph
  pub looked : (v n : ℕ) → slice_get f.looked.items v ≡ Some n → n ≡ length (edges_of graph v)
