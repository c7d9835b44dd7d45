-- What holds at each step of the search backwards.
use Rattle.std.specs.Prelude.{◌≡◌, ◌≢◌, ◌<◌, ◌≤◌, ◌⊎◌, ◌+◌, ◌-◌, ℕ, List, [], ◌∷◌, length, Option, None, Some}
use Rattle.std.specs.Prelude.{slice_get}
use Rattle.std.specs.List.{Contains}
use Rattle.type_system_circles.specs.declared.graph.Link.{Link}
use Rattle.type_system_circles.specs.declared.graph.Node.{Node}
use Rattle.type_system_circles.specs.Graph.{Stands}
use Rattle.graph_ways.specs.declared.backwards.Search.{Search}
use Rattle.graph_ways.specs.declared.order.Order.{Order}
use Rattle.graph_ways.specs.Order.{IsFrom, rank}
use Rattle.graph_ways.specs.Ways.{links_to}

-- the node was met in the search from this root
abbrev pub IsOf : List (Option ℕ) → ℕ → ℕ → Type 0
IsOf roots r v = slice_get roots v ≡ Some (Some r)

-- the number of nodes that were not met
abbrev pub unmet : List (Option ℕ) → ℕ
unmet [] = 0
unmet (None ∷ roots) = unmet roots + 1
unmet (Some r ∷ roots) = unmet roots

-- each link that leads to the node was looked at
abbrev pub IsDone : List Node → List ℕ → ℕ → Type 0
IsDone graph entered v = (n : ℕ) → slice_get entered v ≡ Some n → length (links_to graph v) ≤ n

-- Both its nodes were met, that which it leads from not later. If that is the root of the other, it has a link onward.
pub record Settled (o : Order) (roots : List (Option ℕ)) (onward : List (Option Link)) (l : Link) : Type 0 where
  pub a : ℕ
  pub b : ℕ
  pub from : IsOf roots a l.from
  pub to : IsOf roots b l.edge.target
  pub falls : rank o b ≤ rank o a
  pub closes : l.from ≡ b → slice_get onward b ≢ Some None

-- The link leads from the node to one with the same root.
pub record LeadsOn (graph : List Node) (roots : List (Option ℕ)) (v : ℕ) (l : Link) : Type 0 where
  pub stands : Stands graph l
  pub from : l.from ≡ v
  pub root : ℕ
  pub here : IsOf roots root v
  pub there : IsOf roots root l.edge.target

-- All nodes of this rank or a higher one were met.
pub record Sound (graph : List Node) (o : Order) (low : ℕ) (roots : List (Option ℕ)) (onward : List (Option Link))
    (entered waiting : List ℕ) : Type 0 where
  pub roots_sized : length roots ≡ length graph
  pub onward_sized : length onward ≡ length graph
  pub entered_sized : length entered ≡ length graph
  pub taken : (v : ℕ) → v < length graph → slice_get roots v ≡ Some None → rank o v < low
  pub rooted : (v r : ℕ) → IsOf roots r v → (r < length graph) × (low ≤ rank o r) × IsFrom o r v
  pub bounded : (v n : ℕ) → slice_get entered v ≡ Some n → n ≤ length (links_to graph v)
  -- the first links that lead to a node, as many as were looked at, are settled
  pub ahead : (v n k : ℕ) (l : Link) → slice_get entered v ≡ Some n → k < n → slice_get (links_to graph v) k ≡ Some l
      → Settled o roots onward l
  -- a node that was met is waiting or done
  pub behind : (v r : ℕ) → IsOf roots r v → Contains waiting v ⊎ IsDone graph entered v
  pub real : (v : ℕ) (l : Link) → slice_get onward v ≡ Some (Some l) → LeadsOn graph roots v l
  pub some : (v r : ℕ) → IsOf roots r v → slice_get onward v ≡ Some None → r ≡ v
  -- links onward lead nearer to the root, except from itself
  pub depth : ℕ → ℕ
  pub shallow : (v r : ℕ) → IsOf roots r v → depth v + unmet roots < length graph
  pub nearer : (v : ℕ) (l : Link) → slice_get onward v ≡ Some (Some l) → IsOf roots v v ⊎ (depth l.edge.target < depth v)

abbrev pub IsSound : List Node → Order → ℕ → Search → Type 0
IsSound graph o low s = Sound graph o low s.roots.items s.onward.items s.entered.items s.waiting.items

-- The search from this root goes on.
pub record InRound (graph : List Node) (o : Order) (root : ℕ) (s : Search) : Type 0 where
  pub sound : IsSound graph o (rank o root) s
  pub own : IsOf s.roots.items root root
  pub here : (v : ℕ) → Contains s.waiting.items v → IsOf s.roots.items root v

-- No node is waiting.
pub record Idle (graph : List Node) (o : Order) (low : ℕ) (s : Search) : Type 0 where
  pub sound : IsSound graph o low s
  pub none : s.waiting.items ≡ []

-- how many nodes the search did not let go of
abbrev pub to_leave : Search → ℕ
to_leave s = length s.waiting.items + unmet s.roots.items

-- of nodes from this number on, how many links were not looked at
abbrev pub unlooked : (ℕ → ℕ) → ℕ → List ℕ → ℕ
unlooked links v [] = 0
unlooked links v (n ∷ ns) = (links v - n) + unlooked links (v + 1) ns

-- so many steps are left at most
unfoldable pub steps_left : List Node → Search → ℕ
steps_left graph s = unlooked (λ v. length (links_to graph v)) 0 s.entered.items + to_leave s
