-- Which nodes of a graph are reached from some spreads, and their marks.
use Rattle.std.specs.Prelude.{ℕ, ◌+◌, ◌<◌, List, [], ◌∷◌, length, Bool, true, false, ◌≡◌, ◌⊎◌, Some, slice_get}
use Rattle.std.specs.List.{Contains}
use Rattle.fragment_graph.specs.declared.graph.Node.{Node}
use Rattle.fragment_graph.specs.declared.graph.Spread.{Spread}
use Rattle.fragment_graph.specs.Graph.{spreads_of}

-- The least set that holds the targets of the first spreads and, with a node, the targets of its spreads.
pub data Reached (graph : List Node) (starts : List Spread) : ℕ → Type 0 where
  begin : (x : Spread) → Contains starts x → Reached graph starts x.target
  further : {u : ℕ} → Reached graph starts u → (x : Spread) → Contains (spreads_of graph u) x → Reached graph starts x.target

abbrev pub IsMarked : List Bool → ℕ → Type 0
IsMarked marks v = slice_get marks v ≡ Some true

-- The nodes that are reached have marks, and no others.
pub record MarksReached (graph : List Node) (starts : List Spread) (marks : List Bool) : Type 0 where
  pub sized : length marks ≡ length graph
  pub real : (v : ℕ) → IsMarked marks v → Reached graph starts v
  pub all : (v : ℕ) → v < length graph → Reached graph starts v → IsMarked marks v

abbrev pub unmarked : List Bool → ℕ
unmarked [] = 0
unmarked (true ∷ bs) = unmarked bs
unmarked (false ∷ bs) = 1 + unmarked bs

abbrev pub IsListed : List ℕ → ℕ → Type 0
IsListed order v = (i : ℕ) × (slice_get order i ≡ Some v)

-- The nodes with marks are listed, each once.
pub record WellMarked (order : List ℕ) (marks : List Bool) : Type 0 where
  pub listed : (v : ℕ) → IsMarked marks v → IsListed order v
  pub marked : (i v : ℕ) → slice_get order i ≡ Some v → IsMarked marks v
  pub counted : length order + unmarked marks ≡ length marks
  pub once : (i j v : ℕ) → slice_get order i ≡ Some v → slice_get order j ≡ Some v → i ≡ j

-- So many nodes, none with a mark and none listed.
pub record IsClear (count : ℕ) (order : List ℕ) (marks : List Bool) : Type 0 where
  pub none_listed : order ≡ []
  pub sized : length marks ≡ count
  pub none_marked : (v : ℕ) → IsMarked marks v → ⊥

-- The targets of these spreads got marks, as far as they are nodes, and no others.
pub record Marks (xs : List Spread) (order : List ℕ) (marks : List Bool) (order' : List ℕ) (marks' : List Bool) : Type 0 where
  pub sized : length marks' ≡ length marks
  pub kept : (v : ℕ) → IsMarked marks v → IsMarked marks' v
  pub listed : (i v : ℕ) → slice_get order i ≡ Some v → slice_get order' i ≡ Some v
  pub here : (x : Spread) → Contains xs x → x.target < length marks → IsMarked marks' x.target
  pub only : (v : ℕ) → IsMarked marks' v → IsMarked marks v ⊎ ((x : Spread) × Contains xs x × (x.target ≡ v))

-- What holds when the spreads of the first nodes of the list were looked at.
pub record Searching (graph : List Node) (starts : List Spread) (order : List ℕ) (marks : List Bool) (next : ℕ) : Type 0 where
  pub well : WellMarked order marks
  pub sized : length marks ≡ length graph
  pub real : (v : ℕ) → IsMarked marks v → Reached graph starts v
  pub begun : (x : Spread) → Contains starts x → x.target < length graph → IsMarked marks x.target
  pub closed : (i u : ℕ) → i < next → slice_get order i ≡ Some u → (x : Spread) → Contains (spreads_of graph u) x
      → x.target < length graph → IsMarked marks x.target
