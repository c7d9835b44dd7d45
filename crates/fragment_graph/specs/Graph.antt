-- A graph of spreads, and the paths in it.
use Rattle.std.specs.Prelude.{ℕ, ◌+◌, List, [], ◌∷◌, length, ◌≡◌, ◌⊎◌, slice_get}
use Rattle.std.specs.List.{Contains}
use Rattle.std.specs.Option.{option_map_or}
use Rattle.fragment_graph.specs.declared.graph.Node.{Node}
use Rattle.fragment_graph.specs.declared.graph.Spread.{Spread}
use Rattle.fragment_graph.specs.declared.search.Report.{Report}

abbrev pub spreads_of : List Node → ℕ → List Spread
spreads_of graph v = option_map_or (λ n. n.spreads.items) (slice_get graph v) []

-- The number of spreads.
abbrev pub spread_count : List Node → ℕ
spread_count [] = 0
spread_count (n ∷ ns) = length n.spreads.items + spread_count ns

abbrev pub Spreads : List Node → ℕ → ℕ → Type 0
Spreads graph u v = (x : Spread) × Contains (spreads_of graph u) x × (x.target ≡ v)

-- A path of at least one spread.
pub data Path (graph : List Node) : ℕ → ℕ → Type 0 where
  step : {u v : ℕ} → Spreads graph u v → Path graph u v
  more : {u v w : ℕ} → Spreads graph u v → Path graph v w → Path graph u w

abbrev pub Reported : List Report → ℕ → Type 0
Reported reports v = (r : Report) × Contains reports r × (r.node ≡ v)

-- Some node on the path is reported, its first left out.
abbrev pub Named : {graph : List Node} → List Report → {u w : ℕ} → Path graph u w → Type 0
Named reports {w = w} (step s) = Reported reports w
Named reports (more {v = v} s path) = Reported reports v ⊎ Named reports path

abbrev pub LeadsTo : List Node → ℕ → ℕ → Type 0
LeadsTo graph u v = (u ≡ v) ⊎ Path graph u v

-- The spread is one of the node, and its target is the node or leads back to it.
abbrev pub IsTrueReport : List Node → Report → Type 0
IsTrueReport graph r = Contains (spreads_of graph r.node) r.spread × LeadsTo graph r.spread.target r.node
