-- From each node on a circle links lead onward, and back to it.
use Rattle.std.specs.Prelude.{◌≡◌, ◌<◌, ℕ, List, [], ◌∷◌, length}
use Rattle.type_system_circles.specs.declared.graph.Link.{Link}
use Rattle.type_system_circles.specs.declared.graph.Node.{Node}
use Rattle.type_system_circles.specs.Graph.{IsGraph, IsWalk, Stands}
use Rattle.graph_ways.specs.declared.onward.Ways.{Ways}
use Rattle.graph_ways.specs.declared.way.Path.{Path}
use Rattle.graph_ways.specs.Backwards.{IsOf, Sound}
use Rattle.graph_ways.specs.Order.{IsOrder}

-- Both searches of the graph are done.
pub record LeadBack (graph : List Node) (w : Ways) : Type 0 where
  pub inside : IsGraph graph
  pub order : IsOrder graph w.order
  pub sound : Sound graph w.order 0 w.roots.items w.onward.items w.entered.items []

-- links, the last first, that lead from the second node to the first
abbrev pub IsClimb : List Node → ℕ → List Link → ℕ → Type 0
IsClimb graph v [] w = v ≡ w
IsClimb graph v (l ∷ ls) w = (l.edge.target ≡ v) × Stands graph l × IsClimb graph l.from ls w

-- Links, at least one, lead from the node to another with the same root.
pub record IsOutward (graph : List Node) (w : Ways) (v : ℕ) (p : Path) : Type 0 where
  pub walk : IsWalk graph v p.links.items p.end
  pub some : 0 < length p.links.items
  pub root : ℕ
  pub here : IsOf w.roots.items root v
  pub there : IsOf w.roots.items root p.end
