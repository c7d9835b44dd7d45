-- What holds at each step of the search.
use Rattle.std.specs.Prelude.{◌≡◌, ◌<◌, ◌≤◌, ℕ, List, [], ◌∷◌, ◌++◌, ◌⊎◌, length, map, Option, None, Some, slice_get}
use Rattle.std.specs.List.{All, Contains}
use Rattle.type_system_circles.specs.declared.graph.Edge.{Edge}
use Rattle.type_system_circles.specs.declared.graph.Link.{Link}
use Rattle.type_system_circles.specs.declared.graph.Node.{Node}
use Rattle.type_system_circles.specs.declared.search.Circle.{Circle}
use Rattle.type_system_circles.specs.declared.search.Colour.{Colour}
use Rattle.type_system_circles.specs.declared.search.Colour.TheVariants.{New, InWork, Finished}
use Rattle.type_system_circles.specs.declared.search.Search.{Search}
use Rattle.type_system_circles.specs.Graph.{BeginsFirst, IsCircle, IsSimple, IsWalk, Told, edges_of}

-- The second node was finished, and before the first if that was, too.
abbrev pub IsBelow : List Colour → ℕ → ℕ → Type 0
IsBelow cs u t = (s : ℕ) × (slice_get cs t ≡ Some (Finished s)) × ((r : ℕ) → slice_get cs u ≡ Some (Finished r) → s < r)

-- A link is one of a circle that was told, or of those from the root, or leads to a finished node.
abbrev pub Settled : List Link → List Colour → List Circle → Link → Type 0
Settled trail cs circles l = Told circles l ⊎ (Contains trail l ⊎ IsBelow cs l.from l.edge.target)

pub record Sound (graph : List Node) (path : List ℕ) (trail : List Link) (cs : List Colour) (looked : List ℕ)
    (circles : List Circle) (count : ℕ) : Type 0 where
  pub sized : length cs ≡ length graph
  pub counted : length looked ≡ length graph
  -- the nodes in work are those of the path
  pub placed : (i v : ℕ) → slice_get path i ≡ Some v → slice_get cs v ≡ Some (InWork i)
  pub stands : (i v : ℕ) → slice_get cs v ≡ Some (InWork i) → slice_get path i ≡ Some v
  pub ranked : (v r : ℕ) → slice_get cs v ≡ Some (Finished r) → r < count
  pub bounded : (v n : ℕ) → slice_get looked v ≡ Some n → n ≤ length (edges_of graph v)
  -- of a finished node each edge was looked at, and each that was looked at is settled
  pub complete : (v r n : ℕ) → slice_get cs v ≡ Some (Finished r) → slice_get looked v ≡ Some n → length (edges_of graph v) ≤ n
  pub settled : (v n k : ℕ) (e : Edge) → slice_get looked v ≡ Some n → k < n → slice_get (edges_of graph v) k ≡ Some e
      → Settled trail cs circles (record { from = v; edge = e })
  pub real : All (λ c. IsCircle graph c.links.items) circles
  pub simple : All (λ c. IsSimple c.links.items) circles
  pub first : All (λ c. BeginsFirst c.links.items) circles

-- the nodes on the way along links to a node
abbrev pub path_to : List Link → ℕ → List ℕ
path_to trail u = map (λ l. l.from) trail ++ u ∷ []

abbrev pub SoundAlong : List Node → List ℕ → Search → Type 0
SoundAlong graph path s = Sound graph path s.trail.items s.colours.items s.looked.items s.circles.items (length s.order.items)

-- The links lead to this node.
pub record At (graph : List Node) (u : ℕ) (s : Search) : Type 0 where
  pub sound : SoundAlong graph (path_to s.trail.items u) s
  pub root : ℕ
  pub walk : IsWalk graph root s.trail.items u

-- There are no links, and no node is in work.
pub record Idle (graph : List Node) (s : Search) : Type 0 where
  pub sound : SoundAlong graph [] s
  pub none : s.trail.items ≡ []

abbrev pub Ends : List Node → Option ℕ → Search → Type 0
Ends graph None s = Idle graph s
Ends graph (Some u) s = At graph u s

-- No node turns new.
abbrev pub Keeps : Search → Search → Type 0
Keeps old new = (v : ℕ) → slice_get new.colours.items v ≡ Some New → slice_get old.colours.items v ≡ Some New

-- The link is settled; no more edges were looked at, and no node turns new.
pub record Settles (l : Link) (old new : Search) : Type 0 where
  pub settled : Settled new.trail.items new.colours.items new.circles.items l
  pub looked : new.looked ≡ old.looked
  pub keeps : Keeps old new
