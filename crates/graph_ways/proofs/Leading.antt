-- What was found leads back, from each node from which a way does.
use Rattle.std.proofs.Common.{◌≡◌, ℕ, ◌<◌, ◌≤◌, List, [], ◌∷◌, ◌++◌, length, length-append, reverse, refl, sym, subst, ap, arith, inl, inr, Option, None, Some, slice_get, ◌∙◌}
use Rattle.std.proofs.lemmas.Grind.{reverse_onto}
use Rattle.std.proofs.lemmas.Option.{slice_get_within}
use Rattle.fragment_graph.proofs.Lists.{contains_none, get_some, same_item, same_some}
use Rattle.type_system_circles.specs.declared.graph.Link.{Link}
use Rattle.type_system_circles.specs.declared.graph.Node.{Node}
use Rattle.type_system_circles.specs.Graph.{IsWalk, Stands}
use Rattle.type_system_circles.proofs.Named.{stands_inside}
use Rattle.type_system_circles.proofs.Walks.{walk_more}
use Rattle.graph_ways.specs.declared.onward.Ways.{Ways}
use Rattle.graph_ways.specs.declared.way.Path.{Path}
use Rattle.graph_ways.specs.Backwards.{IsDone, IsOf, Settled}
use Rattle.graph_ways.specs.Onward.{IsClimb, IsOutward, LeadBack}
use Rattle.graph_ways.specs.Order.{IsFrom, rank}
use Rattle.graph_ways.specs.Ways.{Counts, HasNoWayBack, IsWayBack, links_to}
use Rattle.graph_ways.proofs.Links.{to_whole}
use Rattle.graph_ways.proofs.Rounds.{same_rank}

pub climb_more : (graph : List Node) (v : ℕ) (ls : List Link) (l : Link) → IsClimb graph v ls l.edge.target → Stands graph l
    → IsClimb graph v (ls ++ l ∷ []) l.from
climb_more graph v [] l c s = (sym c, s, refl)
climb_more graph v (x ∷ xs) l c s = (c.0, c.1, climb_more graph x.from xs l c.2 s)

walk_join : (graph : List Node) (a : ℕ) (xs ys : List Link) (m b : ℕ) → IsWalk graph a xs m → IsWalk graph m ys b
    → IsWalk graph a (xs ++ ys) b
walk_join graph a [] ys m b w v = rw w v
walk_join graph a (x ∷ xs) ys m b w v = (w.0, w.1, walk_join graph x.edge.target xs ys m b w.2 v)

-- the links of a climb, the first of them first
pub climb_back : (graph : List Node) (v : ℕ) (ls : List Link) (w : ℕ) → IsClimb graph v ls w → IsWalk graph w (reverse ls) v
climb_back graph v [] w c = sym c
climb_back graph v (l ∷ ls) w c =
    subst (λ (xs : List Link). IsWalk graph w xs v) (sym (reverse_onto ls l []))
    (subst (λ (u : ℕ). IsWalk graph w (reverse ls ++ l ∷ []) u) c.0
    (walk_more graph w (reverse ls) l (climb_back graph l.from ls w c.2) c.1))

pub joined : (graph : List Node) (v end : ℕ) (out up all : List Link) → all ≡ out ++ reverse up → IsWalk graph v out end → 0 < length out
    → IsClimb graph v up end → IsWayBack graph v all
joined graph v end out up all is walk some climbed = record {
  walk = rw is (walk_join graph v out (reverse up) end v walk (climb_back graph v up end climbed));
  some = omega (arith, ap length is, length-append out (reverse up));
}

-- a node past the last has no way back
pub past_none : (graph : List Node) (root : ℕ) → length graph ≤ root → HasNoWayBack graph root
past_none graph root past [] w = let some = w.some in omega arith
past_none graph root past (l ∷ ls) w =
    let inside : l.from < length graph = stands_inside graph l w.walk.1 in
    let from : l.from ≡ root = w.walk.0 in
    omega arith

module _ (graph : List Node) (w : Ways) (h : LeadBack graph w) where
  -- each node was met
  root_of : (v : ℕ) → v < length graph → (r : ℕ) × IsOf w.roots.items r v
  root_of v room =
      let sized : length w.roots.items ≡ length graph = h.sound.roots_sized in
      let g = get_some w.roots.items v (omega arith) in
      found g.0 g.1
    where
      found : (o : Option ℕ) → slice_get w.roots.items v ≡ Some o → (r : ℕ) × IsOf w.roots.items r v
      found None is = let nil : rank w.order v < 0 = h.sound.taken v room is in absurd (omega arith)
      found (Some r) is = (r, is)

  all_done : (v : ℕ) → v < length graph → IsDone graph w.entered.items v
  all_done v room = let r = root_of v room in elim (h.sound.behind v r.0 r.1) [ inl wait ↦ absurd (contains_none v wait) | inr done ↦ done ]

  settled : (l : Link) → Stands graph l → Settled w.order w.roots.items w.onward.items l
  settled l s =
      let t : ℕ = l.edge.target in
      let inside : t < length graph = h.inside l.from s.0 l.edge s.1 in
      let k = to_whole graph l s in
      let room : k.0 < length (links_to graph t) = slice_get_within (links_to graph t) k.0 l k.1 in
      let sized : length w.entered.items ≡ length graph = h.sound.entered_sized in
      let n = get_some w.entered.items t (omega arith) in
      let most : length (links_to graph t) ≤ n.0 = all_done t inside n.0 n.1 in
      h.sound.ahead t n.0 k.0 l n.1 (omega arith) k.1

  -- the root of no node that a walk passes is of a higher rank than that of the first
  falls : (a b r q : ℕ) (ls : List Link) → IsWalk graph a ls b → IsOf w.roots.items r a → IsOf w.roots.items q b
      → rank w.order q ≤ rank w.order r
  falls a b r q [] walk of_a of_b =
      let same : r ≡ q = same_some r q (same_item (Some r) (Some q) (slice_get w.roots.items a) of_a (rw walk of_b)) in
      rw same (omega arith)
  falls a b r q (l ∷ ls) walk of_a of_b =
      let s = settled l walk.1 in
      let same : s.a ≡ r = same_some s.a r (same_item (Some s.a) (Some r) (slice_get w.roots.items a) (rw (← walk.0) s.from) of_a) in
      let rest : rank w.order q ≤ rank w.order s.b = falls l.edge.target b s.b q ls walk.2 s.to of_b in
      let step : rank w.order s.b ≤ rank w.order s.a = s.falls in
      rw (← same) (omega arith)

  -- without a link onward there is no way back
  pub no_way : (v : ℕ) → slice_get w.onward.items v ≡ Some None → HasNoWayBack graph v
  no_way v none [] back = let some = back.some in omega arith
  no_way v none (l ∷ ls) back =
      let on : v < length w.onward.items = slice_get_within w.onward.items v None none in
      let sized : length w.onward.items ≡ length graph = h.sound.onward_sized in
      let room : v < length graph = omega arith in
      let r = root_of v room in
      let own : r.0 ≡ v = h.sound.some v r.0 r.1 none in
      let of_v : IsOf w.roots.items v v = rw own at r.1 in
      let s = settled l back.walk.1 in
      let from : l.from ≡ v = back.walk.0 in
      let same : s.a ≡ v = same_some s.a v (same_item (Some s.a) (Some v) (slice_get w.roots.items v) (rw (← from) s.from) of_v) in
      let up : rank w.order v ≤ rank w.order s.b = falls l.edge.target v s.b v ls back.walk.2 s.to of_v in
      let down : rank w.order s.b ≤ rank w.order v = rw same at s.falls in
      let inside = h.sound.rooted l.edge.target s.b s.to in
      let one : s.b ≡ v = same_rank graph w.order h.order s.b v inside.0 room (omega arith) in
      s.closes (from ∙ sym one) (rw one none)

  pub inside_of : (v r : ℕ) → IsOf w.roots.items r v → v < length graph
  inside_of v r is =
      let room : v < length w.roots.items = slice_get_within w.roots.items v (Some r) is in
      let sized : length w.roots.items ≡ length graph = h.sound.roots_sized in
      omega arith

  pub outward_inside : (v : ℕ) (p : Path) → IsOutward graph w v p → (v < length graph) × (p.end < length graph)
  outward_inside v p o = (inside_of v o.root o.here, inside_of p.end o.root o.there)

  -- the path of the link onward
  pub outward_one : (l : Link) (p : Path) → slice_get w.onward.items l.from ≡ Some (Some l) → p.links.items ≡ [] ++ l ∷ []
      → p.end ≡ l.edge.target
      → IsOutward graph w l.from p
  outward_one l p is ls end =
      let on = h.sound.real l.from l is in
      record {
        walk = rw (ls, end) (refl, on.stands, refl);
        some = omega (arith, ap length ls);
        root = on.root;
        here = on.here;
        there = rw end on.there;
      }

  -- one link onward more
  pub outward_more : (v : ℕ) (p q : Path) (l : Link) → IsOutward graph w v p → slice_get w.onward.items p.end ≡ Some (Some l)
      → q.links.items ≡ p.links.items ++ l ∷ [] → q.end ≡ l.edge.target → IsOutward graph w v q
  outward_more v p q l o is ls end =
      let on = h.sound.real p.end l is in
      let same : o.root ≡ on.root =
      same_some o.root on.root (same_item (Some o.root) (Some on.root) (slice_get w.roots.items p.end) o.there on.here) in
      record {
        walk = rw (ls, end) (walk_more graph v p.links.items l (rw on.from o.walk) on.stands);
        some = omega (arith, ap length ls, length-append p.links.items (l ∷ []));
        root = o.root;
        here = o.here;
        there = rw (end, same) on.there;
      }

  -- only a root has no link onward, and all nodes of the root were found from it
  pub outward_ends : (v : ℕ) (p : Path) → IsOutward graph w v p → slice_get w.onward.items p.end ≡ Some None → IsFrom w.order p.end v
  outward_ends v p o none =
      let own : o.root ≡ p.end = h.sound.some p.end o.root o.there none in
      rw own at (h.sound.rooted v o.root o.here).2

  -- the link onward leads nearer to the root
  pub nearer_end : (v : ℕ) (p : Path) (l : Link) → IsOutward graph w v p → (IsFrom w.order p.end v → ⊥)
      → slice_get w.onward.items p.end ≡ Some (Some l) → h.sound.depth l.edge.target < h.sound.depth p.end
  nearer_end v p l o away is = elim (h.sound.nearer p.end l is) [
    | inl own ↦
        let same : o.root ≡ p.end =
        same_some o.root p.end (same_item (Some o.root) (Some p.end) (slice_get w.roots.items p.end) o.there own) in
        absurd (away (rw same at (h.sound.rooted v o.root o.here).2))
    | inr less ↦ less
  ]

  pub counts : Counts graph w.order.looked.items w.entered.items
  counts = record {
    looked_sized = h.order.looked_sized;
    looked = h.order.looked;
    entered_sized = h.sound.entered_sized;
    entered = λ v n is.
        let room : v < length w.entered.items = slice_get_within w.entered.items v n is in
        let sized : length w.entered.items ≡ length graph = h.sound.entered_sized in
        let most : n ≤ length (links_to graph v) = h.sound.bounded v n is in
        let least : length (links_to graph v) ≤ n = all_done v (omega arith) n is in
        omega arith;
  }
