-- What holds at each step of the search.
use Rattle.std.specs.Prelude.{ℕ, suc, ◌+◌, ◌-◌, ◌<◌, ◌≤◌, List, [], ◌∷◌, length, ◌≡◌, ◌⊎◌, slice_get, Some}
use Rattle.std.specs.List.{All, Contains}
use Rattle.fragment_graph.specs.declared.graph.Node.{Node}
use Rattle.fragment_graph.specs.declared.graph.Spread.{Spread}
use Rattle.fragment_graph.specs.declared.search.Report.{Report}
use Rattle.fragment_graph.specs.declared.search.Colour.{Colour}
use Rattle.fragment_graph.specs.declared.search.Colour.TheVariants.{New, InWork, Finished}
use Rattle.fragment_graph.specs.declared.search.Step.{Step}
use Rattle.fragment_graph.specs.declared.search.Search.{Search}
use Rattle.fragment_graph.specs.Graph.{spreads_of, spread_count, Reported, IsTrueReport}

-- The number of spreads of a new node; 0 for any other.
abbrev pub fresh_of : Colour → ℕ → ℕ
fresh_of New k = k
fresh_of (InWork i) k = 0
fresh_of (Finished r) k = 0

abbrev pub fresh : List Node → List Colour → ℕ
fresh [] cs = 0
fresh (n ∷ ns) [] = 0
fresh (n ∷ ns) (c ∷ cs) = fresh_of c (length n.spreads.items) + fresh ns cs

abbrev pub unfinished_of : Colour → ℕ
unfinished_of New = 1
unfinished_of (InWork i) = 1
unfinished_of (Finished r) = 0

abbrev pub unfinished : List Colour → ℕ
unfinished [] = 0
unfinished (c ∷ cs) = unfinished_of c + unfinished cs

-- The number of spreads on the path that were not looked at.
abbrev pub path_left : List Node → List Step → ℕ
path_left graph [] = 0
path_left graph (p ∷ ps) = (length (spreads_of graph p.node) - p.looked) + path_left graph ps

-- The number is past the last node, or the node is reported, or finished with a smaller rank.
abbrev pub Below : List Node → List Colour → List Report → ℕ → ℕ → Type 0
Below graph cs reports rank v =
    (length graph ≤ v) ⊎ (Reported reports v ⊎ ((r : ℕ) × (slice_get cs v ≡ Some (Finished r)) × (r < rank)))

-- The spread that a step looked at last leads to the node.
pub record Link (graph : List Node) (p : Step) (v : ℕ) : Type 0 where
  pub before : ℕ
  pub spread : Spread
  pub last : p.looked ≡ suc before
  pub stands : slice_get (spreads_of graph p.node) before ≡ Some spread
  pub leads : spread.target ≡ v

-- What follows a step: the next node of the path, or what the path goes on to.
abbrev pub after : List Step → List ℕ → List ℕ
after [] next = next
after (q ∷ qs) next = q.node ∷ []

pub record StepHolds (graph : List Node) (B : ℕ → Type 0) (p : Step) (next : List ℕ) : Type 0 where
  pub linked : (v : ℕ) → Contains next v → Link graph p v
  pub settled : (j : ℕ) (x : Spread) → j < p.looked → slice_get (spreads_of graph p.node) j ≡ Some x → B x.target ⊎ Contains next x.target

-- Each step leads to the next, and its other spreads that were looked at have targets in B.
abbrev pub Chained : List Node → (ℕ → Type 0) → List Step → List ℕ → Type 0
Chained graph B [] next = Unit {0}
Chained graph B (p ∷ ps) next = StepHolds graph B p (after ps next) × Chained graph B ps next

pub record Sound (graph : List Node) (path : List Step) (next : List ℕ) (cs : List Colour) (order : List ℕ)
    (reports : List Report) (looked : ℕ) : Type 0 where
  pub sized : length cs ≡ length graph
  pub placed : (i : ℕ) (p : Step) → slice_get path i ≡ Some p → slice_get cs p.node ≡ Some (InWork i)
  pub stands : (v i : ℕ) → slice_get cs v ≡ Some (InWork i) → (l : ℕ) × (slice_get path i ≡ Some (record { node = v; looked = l }))
  pub chained : Chained graph (Below graph cs reports (length order)) path next
  pub finished : (v r : ℕ) → slice_get cs v ≡ Some (Finished r)
      → (slice_get order r ≡ Some v) × ((x : Spread) → Contains (spreads_of graph v) x → Below graph cs reports r x.target)
  pub ordered : (r v : ℕ) → slice_get order r ≡ Some v → slice_get cs v ≡ Some (Finished r)
  pub real : All (IsTrueReport graph) reports
  pub counted : looked + (fresh graph cs + path_left graph path) ≡ spread_count graph
  pub numbered : length order + unfinished cs ≡ length graph

abbrev pub SoundAlong : List Node → List Step → List ℕ → Search → Type 0
SoundAlong graph path next s = Sound graph path next s.colours.items s.order.items s.reports.items s.looked

-- Sound between two steps: the path does not go on yet.
abbrev pub IsSound : List Node → Search → Type 0
IsSound graph s = SoundAlong graph s.path.items [] s

-- Sound where the path goes on to a node.
abbrev pub IsSoundTo : List Node → ℕ → Search → Type 0
IsSoundTo graph node s = SoundAlong graph s.path.items (node ∷ []) s

-- No node turns new.
abbrev pub Keeps : Search → Search → Type 0
Keeps old new = (v : ℕ) → slice_get new.colours.items v ≡ Some New → slice_get old.colours.items v ≡ Some New

-- The number of steps left: spreads to look at, and nodes to finish.
abbrev pub steps_left : List Node → Search → ℕ
steps_left graph s = (spread_count graph - s.looked) + unfinished s.colours.items
