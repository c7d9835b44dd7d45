-- The links that lead to each node.
use Rattle.std.specs.Prelude.{◌≡◌, ◌++◌, ℕ, List, [], length, Some, slice_get}
use Rattle.type_system_circles.specs.declared.graph.Link.{Link}
use Rattle.type_system_circles.specs.declared.graph.Node.{Node}
use Rattle.graph_ways.specs.declared.entering.Entering.{Entering}
use Rattle.graph_ways.specs.Ways.{leading_to, links_to}

-- each node has the links that lead to it
pub record AreEntering (graph : List Node) (es : List Entering) : Type 0 where
  pub sized : length es ≡ length graph
  pub own : (v : ℕ) (e : Entering) → slice_get es v ≡ Some e → e.links.items ≡ links_to graph v

-- no node has a link yet
pub record AreBare (count : ℕ) (es : List Entering) : Type 0 where
  pub sized : length es ≡ count
  pub none : (v : ℕ) (e : Entering) → slice_get es v ≡ Some e → e.links.items ≡ []

-- These links were added, each to those of the node that it leads to.
pub record Enters (more : List Link) (old new : List Entering) : Type 0 where
  pub sized : length new ≡ length old
  pub added : (v : ℕ) (e : Entering) → slice_get new v ≡ Some e
      → (d : Entering) × (slice_get old v ≡ Some d) × (e.links.items ≡ d.links.items ++ leading_to v more)
