-- Ways of references, by numbers and by names.
use Rattle.std.proofs.Common.{◌≡◌, ℕ, ◌<◌, List, [], ◌∷◌, ◌++◌, length, refl, sym, subst, ap, arith, Option, None, Some, inl, inr, slice_get, ◌∙◌}
use Rattle.std.specs.List.{Contains, flat_map}
use Rattle.std.specs.Option.{option_map_or}
use Rattle.fragment_graph.proofs.Lists.{contains_get, contains_none, contains_one, none_some, one_contains, same_item, same_some}
use Rattle.graph_ways.specs.Ways as numbers
use Rattle.graphql_reader.specs.declared.type_system.DirectiveDefinition.{DirectiveDefinition}
use Rattle.graphql_reader.specs.declared.type_system.TypeSystemDefinition.{TypeSystemDefinition}
use Rattle.type_system_circles.specs.declared.graph.Link.{Link}
use Rattle.type_system_circles.specs.declared.graph.Node.{Node}
use Rattle.type_system_circles.specs.Graph.{IsGraph, IsWalk, Stands}
use Rattle.sdl_directive_circles.specs.declared.graph.References.{References}
use Rattle.sdl_directive_circles.specs.Circles.{IsWay, IsWayBack, RefersToItself, told_name}
use Rattle.sdl_directive_circles.specs.Graph.{AddsLinks, AreBare, HasPlaces, HasReferences, definition_told, link, link_told, links_between, links_of, place_by, place_of}
use Rattle.sdl_directive_circles.specs.Uses.{Name, RefersTo, defined_name, directive_name, uses_of}
use Rattle.sdl_directive_circles.proofs.Lists.{flat_real, flat_whole}
use Rattle.sdl_directive_circles.proofs.Placing.{within}

-- the graph of a document after its links were added
pub made : (document : List TypeSystemDefinition) (r : References) (bare : List Node) → HasPlaces document r.places
    → AreBare (length document) bare
    → AddsLinks (flat_map (links_of r.places) document) bare r.nodes.items → HasReferences document r
made document r bare places empty adds = record {
  places = places;
  sized = adds.sized ∙ empty.sized;
  real = λ l s. elim (adds.real l s) [ inl old ↦ absurd (empty.none l old) | inr new ↦ new ];
  whole = adds.whole;
}

between_real : (o p : Option ℕ) (l : Link) → Contains (links_between o p) l → (o ≡ Some l.from) × (p ≡ Some l.edge.target)
between_real (Some v) (Some w) l c =
    let same : link v w ≡ l = contains_one (link v w) l c in
    (ap (λ (x : Link). Some x.from) same, ap (λ (x : Link). Some x.edge.target) same)
between_real (Some v) None l c = absurd (contains_none l c)
between_real None p l c = absurd (contains_none l c)

module _ (document : List TypeSystemDefinition) (r : References) (has : HasReferences document r) where
  -- what a link stands for
  record IsReference (l : Link) : Type 0 where
    of : Name
    to : Name
    from_place : place_of r.places of ≡ Some l.from
    to_place : place_of r.places to ≡ Some l.edge.target
    refers : RefersTo document of to

  reference : (l : Link) → Stands r.nodes.items l → IsReference l
  reference l s =
      let x = flat_real (links_of r.places) document l (has.real l s) in
      let u = flat_real (λ (u : Name). links_between (place_by r.places (defined_name x.0)) (place_of r.places u)) (uses_of x.0) l x.2 in
      let both = between_real (place_by r.places (defined_name x.0)) (place_of r.places u.0) l u.2 in
      step x.0 x.1 u.0 u.1 both.1 (defined_name x.0) refl both.0
    where
      step : (x : TypeSystemDefinition) → Contains document x → (u : Name) → Contains (uses_of x) u
          → place_of r.places u ≡ Some l.edge.target
          → (o : Option Name) → defined_name x ≡ o → place_by r.places o ≡ Some l.from → IsReference l
      step x listed u used to None is from = absurd (none_some l.from from)
      step x listed u used to (Some a) is from = record { of = a; to = u; from_place = from; to_place = to; refers = (x, listed, is, used) }

  linked : (a b : Name) (v w : ℕ) → RefersTo document a b → place_of r.places a ≡ Some v → place_of r.places b ≡ Some w
      → Stands r.nodes.items (link v w)
  linked a b v w (x, listed, is, used) from to =
      let own : place_by r.places (defined_name x) ≡ Some v = ap (place_by r.places) is ∙ from in
      let between : links_between (place_by r.places (defined_name x)) (place_of r.places b) ≡ link v w ∷ [] = λ i. links_between (own i)
      (to i) in
      has.whole (link v w) (flat_whole (links_of r.places) document x (link v w) listed
      (flat_whole (λ (u : Name). links_between (place_by r.places (defined_name x)) (place_of r.places u)) (uses_of x) b (link v w) used
      (subst (λ (ls : List Link). Contains ls (link v w)) (sym between) (one_contains (link v w)))))

  -- each edge leads to a node
  pub is_graph : IsGraph r.nodes.items
  is_graph v k e h =
      let l : Link = record { from = v; edge = e } in
      let q = reference l (k, h) in
      let inside : e.target < length document = within document r.places has.places q.to e.target q.to_place in
      let sized : length r.nodes.items ≡ length document = has.sized in
      omega (arith, inside, sized)

  -- two names have two places
  one_name : (a b : Name) (v : ℕ) → place_of r.places a ≡ Some v → place_of r.places b ≡ Some v → a ≡ b
  one_name a b v at_a at_b =
      let x = has.places.real a v at_a in
      let y = has.places.real b v at_b in
      let same : x.0 ≡ y.0 = same_item x.0 y.0 (slice_get document v) x.1 y.1 in
      same_some a b (sym x.2 ∙ ap defined_name same ∙ y.2)

  -- the directive to whose place a link leads
  told_at : (b : Name) (l : Link) → place_of r.places b ≡ Some l.edge.target → link_told document l ≡ told_name b
  told_at b l to =
      let x = has.places.real b l.edge.target to in
      ap (λ (o : Option TypeSystemDefinition). option_map_or definition_told o []) x.1
      ∙ ap (λ (o : Option Name). option_map_or told_name o []) x.2

  -- a walk is a way, with the same directives
  way : (a b : Name) (v w : ℕ) (ls : List Link) → place_of r.places a ≡ Some v → place_of r.places b ≡ Some w → IsWalk r.nodes.items v ls w
      → (xs : List Name) × IsWay document a xs b × (flat_map (link_told document) ls ≡ flat_map told_name xs) × (length xs ≡ length ls)
  way a b v w [] at_a at_b h = ([], one_name a b v at_a (at_b ∙ ap (λ (u : ℕ). Some u) (sym h)), refl, refl)
  way a b v w (l ∷ ls) at_a at_b h =
      let q = reference l h.1 in
      let same : q.of ≡ a = one_name q.of a v (q.from_place ∙ ap (λ (u : ℕ). Some u) h.0) at_a in
      let rest = way q.to b l.edge.target w ls q.to_place at_b h.2 in
      let many : length rest.0 ≡ length ls = rest.3 in (
        q.to ∷ rest.0,
        (subst (λ (c : Name). RefersTo document c q.to) same q.refers, rest.1),
        (λ i. told_at q.to l q.to_place i ++ rest.2 i),
        omega (arith, many),
      )

  placed : (a b : Name) → RefersTo document a b → (v : ℕ) × (place_of r.places a ≡ Some v)
  placed a b (x, listed, is, used) =
      let at = contains_get document x listed in
      has.places.whole a at.0 (x, at.1, is)

  placed_on : (a b : Name) (w : ℕ) (xs : List Name) → place_of r.places b ≡ Some w → IsWay document a xs b
      → (v : ℕ) × (place_of r.places a ≡ Some v)
  placed_on a b w [] at_b h = (w, ap (place_of r.places) h ∙ at_b)
  placed_on a b w (x ∷ xs) at_b h = placed a x h.0

  -- and a way a walk
  walk : (a b : Name) (v w : ℕ) (xs : List Name) → place_of r.places a ≡ Some v → place_of r.places b ≡ Some w → IsWay document a xs b
      → (ls : List Link) × IsWalk r.nodes.items v ls w × (length ls ≡ length xs)
  walk a b v w [] at_a at_b h = ([], same_some v w (sym at_a ∙ ap (place_of r.places) h ∙ at_b), refl)
  walk a b v w (x ∷ xs) at_a at_b h =
      let u = placed_on x b w xs at_b h.1 in
      let rest = walk x b u.0 w xs u.1 at_b h.1 in
      let many : length rest.0 ≡ length xs = rest.2 in
      (link v u.0 ∷ rest.0, (refl, linked a x v u.0 h.0 at_a u.1, rest.1), omega (arith, many))

  module _ (d : DirectiveDefinition) where
    -- a directive without a place refers to nothing
    pub unplaced : place_of r.places (directive_name d) ≡ None → RefersToItself document d → ⊥
    unplaced none (xs, back) = step xs back
      where
        step : (ys : List Name) → IsWayBack document (directive_name d) ys → ⊥
        step [] b = let some = b.some in omega arith
        step (y ∷ ys) b = let p = placed (directive_name d) y b.way.0 in none_some p.0 (sym none ∙ p.1)

    module _ (root : ℕ) (at : place_of r.places (directive_name d) ≡ Some root) where
      -- no way back by numbers is none by names
      pub no_way : numbers.HasNoWayBack r.nodes.items root → RefersToItself document d → ⊥
      no_way none (xs, back) =
          let w = walk (directive_name d) (directive_name d) root root xs at at back.way in
          let some : 0 < length xs = back.some in
          none w.0 (record { walk = w.1; some = omega (arith, some, w.2) })

      -- and one by numbers is one by names
      pub way_found : (ls : List Link) → numbers.IsWayBack r.nodes.items root ls
          → (xs : List Name) × IsWayBack document (directive_name d) xs × (flat_map (link_told document) ls ≡ flat_map told_name xs)
      way_found ls back =
          let w = way (directive_name d) (directive_name d) root root ls at at back.walk in
          let some : 0 < length ls = back.some in
          (w.0, record { way = w.1; some = omega (arith, some, w.3) }, w.2)
