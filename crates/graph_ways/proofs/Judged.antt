-- What holds once each node was left.
use Rattle.std.proofs.Common.{◌≡◌, ℕ, ◌<◌, ◌≤◌, Bool, true, List, [], length, arith, inl, inr, ◌⊎◌, Some, slice_get}
use Rattle.std.proofs.lemmas.List.{append-nil}
use Rattle.std.proofs.lemmas.Option.{slice_get_within}
use Rattle.fragment_graph.proofs.Lists.{get_some, same_item}
use Rattle.type_system_circles.specs.declared.graph.Link.{Link}
use Rattle.type_system_circles.specs.declared.graph.Node.{Node}
use Rattle.type_system_circles.specs.Graph.{Stands, edges_of}
use Rattle.type_system_circles.proofs.Named.{stands_inside}
use Rattle.graph_ways.specs.declared.order.Order.{Order}
use Rattle.graph_ways.specs.Leaving.{IsMet, IsPlace, Ordered, Sound, unmet}
use Rattle.graph_ways.specs.Order.{IsFoundBelow, IsFrom, IsOrder, rank}
use Rattle.graph_ways.proofs.Places.{number_is, unmet_none}

module _ (graph : List Node) (met : List Bool) (o : Order)
    (h : Sound graph o.nodes.items [] met o.ranks.items o.firsts.items o.found_by.items o.looked.items)
    (begun : (v : ℕ) → v < length graph → IsMet met v) where
  whole : Ordered graph o.nodes.items o.firsts.items o.found_by.items o.looked.items
  whole = rw (append-nil o.nodes.items) at h.ordered

  ranked : (i v : ℕ) → IsPlace o.nodes.items i v → rank o v ≡ i
  ranked i v at = number_is o.ranks.items v i (h.ranked i v at)

  place : (v : ℕ) → v < length graph → IsPlace o.nodes.items (rank o v) v
  place v inside =
      let p = h.placed v (begun v inside) in
      let at : IsPlace o.nodes.items p.0 v = rw (append-nil o.nodes.items) at p.1 in
      rw (ranked p.0 v at) at

  all_left : length o.nodes.items ≡ length graph
  all_left =
      let sized : length met ≡ length graph = h.met_sized in
      let none : unmet met ≡ 0 = unmet_none met (λ v b is.
      let room : v < length met = slice_get_within met v b is in
      same_item true b (slice_get met v) (begun v (omega arith)) is) in
      let counted = h.counted in
      omega arith

  -- each edge of a node was looked at, and no more
  looked_all : (v n : ℕ) → v < length graph → slice_get o.looked.items v ≡ Some n → n ≡ length (edges_of graph v)
  looked_all v n inside is =
      let most : length (edges_of graph v) ≤ n = h.done (rank o v) v (place v inside) n is in
      let least : n ≤ length (edges_of graph v) = h.bounded v n is in
      omega arith

  back : (l : Link) → Stands graph l → (rank o l.edge.target < rank o l.from) ⊎ IsFrom o l.edge.target l.from
  back l s =
      let inside : l.from < length graph = stands_inside graph l s in
      let sized : length o.looked.items ≡ length graph = h.looked_sized in
      let n = get_some o.looked.items l.from (omega arith) in
      let all : n.0 ≡ length (edges_of graph l.from) = looked_all l.from n.0 inside n.1 in
      let room : s.0 < length (edges_of graph l.from) = slice_get_within (edges_of graph l.from) s.0 l.edge s.1 in
      let b = whole.back l.from n.0 s.0 l.edge n.1 (omega arith) s.1 in
      let from : rank o l.from ≡ b.0 = ranked b.0 l.from b.1 in
      let to : rank o l.edge.target ≡ b.2.place = ranked b.2.place l.edge.target b.2.is in
      elim b.2.back [
        | inl before ↦ inl (omega (arith, from, to, before))
        | inr q ↦ inr (omega (arith, from, to, q.0, q.1), omega (arith, from, to, q.0, q.1))
      ]

  found : (v w : ℕ) → v < length graph → w < length graph → IsFrom o v w → (v ≡ w) ⊎ IsFoundBelow graph o v w
  found v w inside_v inside_w f = elim (whole.linked (rank o v) (rank o w) v w (place v inside_v) (place w inside_w) f.0 f.1) [
    | inl same ↦ inl same
    | inr k ↦
        let from : rank o k.link.from ≡ k.place = ranked k.place k.link.from k.from in
        inr (k.link, k.is, k.stands, k.leads, omega arith, omega arith)
  ]

  pub judged : IsOrder graph o
  judged = record {
    sized = all_left;
    ranks_sized = h.ranks_sized;
    firsts_sized = h.firsts_sized;
    found_sized = h.found_sized;
    placed = place;
    ranked = λ k v at. (whole.inside k v at, ranked k v at);
    own = λ v inside. whole.own (rank o v) v (place v inside);
    nested = λ v w inside_v inside_w f. whole.nested (rank o v) (rank o w) v w (place v inside_v) (place w inside_w) f.0 f.1;
    back = back;
    found = found;
    looked_sized = h.looked_sized;
    looked = λ v n is.
        let sized : length o.looked.items ≡ length graph = h.looked_sized in
        let room : v < length o.looked.items = slice_get_within o.looked.items v n is in
        looked_all v n (omega arith) is;
  }
