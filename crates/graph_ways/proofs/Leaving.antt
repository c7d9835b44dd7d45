-- What the search for an order does, a step at a time, keeps it sound.
use Rattle.std.proofs.Common.{◌≡◌, ℕ, ◌+◌, ◌<◌, ◌≤◌, Bool, true, false, List, [], ◌∷◌, ◌++◌, length, length-append, length-set, map, refl, reverse, subst, ap, arith, inl, inr, Option, None, Some, slice_get, slice_set, replicate, ◌∙◌}
use Rattle.std.proofs.lemmas.Bool.{cases_lt}
use Rattle.std.proofs.lemmas.List.{append_assoc, length-replicate, reverse-append}
use Rattle.std.proofs.lemmas.Option.{slice_get_within}
use Rattle.fragment_graph.proofs.Lists.{get_more, get_snoc, get_some, none_some, same_item, set_keep, set_other, set_same}
use Rattle.name_tables.proofs.Lists.{get_same}
use Rattle.type_system_circles.specs.declared.graph.Edge.{Edge}
use Rattle.type_system_circles.specs.declared.graph.Link.{Link}
use Rattle.type_system_circles.specs.declared.graph.Node.{Node}
use Rattle.type_system_circles.specs.Graph.{Stands, edges_of}
use Rattle.type_system_circles.specs.Sound.{path_to}
use Rattle.type_system_circles.proofs.Walks.{path-more}
use Rattle.graph_ways.specs.Leaving.{IsLooked, IsMet, IsPlace, LeadsBack, Sound, unmet}
use Rattle.graph_ways.specs.Order.{number_at}
use Rattle.graph_ways.proofs.Ordering.{IsLinkFrom, IsNext, ordered_looked, ordered_met}
use Rattle.graph_ways.proofs.Places.{insert_after, insert_cases, insert_here, number_other, number_same, set_cases, set_itself, unmet_all, unmet_set}

-- the nodes on the way to a node, the last first
work_to : (trail : List Link) (u : ℕ) → reverse (path_to trail u) ≡ u ∷ reverse (map (λ l. l.from) trail)
work_to trail u = reverse-append (map (λ l. l.from) trail) (u ∷ [])

work_more : (trail : List Link) (l : Link) (t : ℕ) → reverse (path_to (trail ++ l ∷ []) t) ≡ t ∷ reverse (path_to trail l.from)
work_more trail l t = ap reverse (path-more trail l t) ∙ reverse-append (path_to trail l.from) (t ∷ [])

pub sound_start : (graph : List Node) (met : List Bool) (ranks firsts : List ℕ) (found : List (Option Link)) (looked : List ℕ)
    → met ≡ replicate (length graph) false → ranks ≡ replicate (length graph) 0 → firsts ≡ replicate (length graph) 0
    → found ≡ replicate (length graph) None → looked ≡ replicate (length graph) 0 → Sound graph [] [] met ranks firsts found looked
sound_start graph met ranks firsts found looked no_met no_ranks no_firsts no_found no_looked =
    let zeros : (v n : ℕ) → slice_get looked v ≡ Some n → 0 ≡ n =
    λ v n is. get_same (length graph) v 0 n (rw no_looked at is) in
    record {
      ordered = record {
        simple = λ i j v at. absurd (none_some v at);
        inside = λ i v at. absurd (none_some v at);
        own = λ i v at. absurd (none_some v at);
        nested = λ i j v w at. absurd (none_some v at);
        linked = λ i j v w at. absurd (none_some v at);
        back = λ v n k e is lt. let z = zeros v n is in absurd (omega arith);
      };
      met_sized = ap length no_met ∙ length-replicate (length graph) false;
      ranks_sized = ap length no_ranks ∙ length-replicate (length graph) 0;
      firsts_sized = ap length no_firsts ∙ length-replicate (length graph) 0;
      found_sized = ap length no_found ∙ length-replicate (length graph) None;
      looked_sized = ap length no_looked ∙ length-replicate (length graph) 0;
      counted = let e : unmet met ≡ length graph = ap unmet no_met ∙ unmet_all (length graph) in omega arith;
      placed = λ v is. let e : false ≡ true = get_same (length graph) v false true (rw no_met at is) in absurd cc;
      marked = λ i v at. absurd (none_some v at);
      early = λ i v at. absurd (none_some v at);
      ranked = λ i v at. absurd (none_some v at);
      done = λ i v at. absurd (none_some v at);
      bounded = λ v n is. let z = zeros v n is in omega arith;
    }

module _ {graph : List Node} {left work : List ℕ} {met : List Bool} {ranks firsts : List ℕ} {found : List (Option Link)} {looked : List ℕ}
    (h : Sound graph left work met ranks firsts found looked) where
  -- a new node is met
  sound_met : (t : ℕ) (o : Option Link) → t < length graph → slice_get met t ≡ Some false
      → ((i v : ℕ) → IsPlace (left ++ work) i v → length left ≤ i → IsLinkFrom graph (left ++ work) (length left) t o)
      → Sound graph left (t ∷ work) (slice_set met t true) ranks (slice_set firsts t (length left)) (slice_set found t o) looked
  sound_met t o inside new link =
      let firsts_sized : length firsts ≡ length graph = h.firsts_sized in
      let found_sized : length found ≡ length graph = h.found_sized in
      let f = get_some firsts t (omega arith) in
      let g = get_some found t (omega arith) in
      let apart : (i : ℕ) → IsPlace (left ++ work) i t → ⊥ =
      λ i at. let e : false ≡ true = same_item false true (slice_get met t) new (h.marked i t at) in cc in
      let next : IsNext graph (left ++ work) (length left) t o = record { inside = inside; new = apart; link = link } in
      record {
        ordered = ordered_met left work t f.0 o g.0 h.ordered h.early next f.1 g.1;
        met_sized = length-set met t true ∙ h.met_sized;
        ranks_sized = h.ranks_sized;
        firsts_sized = length-set firsts t (length left) ∙ h.firsts_sized;
        found_sized = length-set found t o ∙ h.found_sized;
        looked_sized = h.looked_sized;
        counted = let e = unmet_set met t new in let c = h.counted in omega arith;
        placed = λ v is. elim (set_cases met t v false true true new is) [
          | inl here ↦ (length left, rw here.0 (insert_here left work t))
          | inr was ↦ let p = h.placed v was in let a = insert_after left work t p.0 v p.1 in (a.place, a.is)
        ];
        marked = λ i v at. elim (insert_cases left work t i v at) [
          | inl here ↦ rw (← here.1) (set_same met t false true new)
          | inr b ↦ set_keep met t v false true true new (λ e. cc) (h.marked b.place v b.is)
        ];
        early = λ i v at. elim (insert_cases left work t i v at) [
          | inl here ↦
              let own = number_same firsts t f.0 (length left) f.1 in
              let e : number_at (slice_set firsts t (length left)) v ≡ length left = rw (← here.1) own in
              omega arith
          | inr b ↦
              let e = number_other firsts t v (length left) (λ same. apart b.place (rw same at b.is)) in
              let c = h.early b.place v b.is in
              omega arith
        ];
        ranked = h.ranked;
        done = h.done;
        bounded = h.bounded;
      }

  -- one more edge of a node was looked at
  sound_looked : (i u n : ℕ) (e : Edge) → slice_get looked u ≡ Some n → slice_get (edges_of graph u) n ≡ Some e
      → IsPlace (left ++ work) i u → LeadsBack (left ++ work) firsts i e.target
      → Sound graph left work met ranks firsts found (slice_set looked u (n + 1))
  sound_looked i u n e next edge at leads = record {
    ordered = ordered_looked i u n e next edge at leads h.ordered;
    met_sized = h.met_sized;
    ranks_sized = h.ranks_sized;
    firsts_sized = h.firsts_sized;
    found_sized = h.found_sized;
    looked_sized = length-set looked u (n + 1) ∙ h.looked_sized;
    counted = h.counted;
    placed = h.placed;
    marked = h.marked;
    early = h.early;
    ranked = h.ranked;
    done = λ j v on m is. elim (set_cases looked u v n (n + 1) m next is) [
      | inl new ↦ let all : length (edges_of graph v) ≤ n = h.done j v on n (rw new.0 next) in omega (arith, new.1)
      | inr was ↦ h.done j v on m was
    ];
    bounded = λ v m is. elim (set_cases looked u v n (n + 1) m next is) [
      | inl new ↦
          let room : n < length (edges_of graph u) = slice_get_within (edges_of graph u) n e edge in
          let within : m ≤ length (edges_of graph u) = omega (arith, new.1, room) in
          rw new.0 within
      | inr was ↦ h.bounded v m was
    ];
  }

  -- an edge from the last node in work leads back where its target was met
  leads_met : (t : ℕ) → IsMet met t → LeadsBack (left ++ work) firsts (length left) t
  leads_met t is =
      let p = h.placed t is in
      record {
        place = p.0;
        is = p.1;
        back = elim (cases_lt p.0 (length left)) [ inl lt ↦ inl lt | inr le ↦ inr (h.early p.0 t p.1, le) ];
      }

-- the last node in work is left
sound_left : {graph : List Node} {left work : List ℕ} {met : List Bool} {ranks firsts : List ℕ} {found : List (Option Link)}
    {looked : List ℕ} (u : ℕ) → IsLooked graph looked u → Sound graph left (u ∷ work) met ranks firsts found looked
    → Sound graph (left ++ u ∷ []) work met (slice_set ranks u (length left)) firsts found looked
sound_left {graph = graph} {left = left} {work = work} {ranks = ranks} {looked = looked} u all h =
    let same : (left ++ u ∷ []) ++ work ≡ left ++ u ∷ work = append_assoc left (u ∷ []) work in
    let here : IsPlace (left ++ u ∷ work) (length left) u = insert_here left work u in
    let inside : u < length graph = h.ordered.inside (length left) u here in
    let sized : length ranks ≡ length graph = h.ranks_sized in
    let r = get_some ranks u (omega arith) in
    let more : length (left ++ u ∷ []) ≡ length left + 1 = length-append left (u ∷ []) in
    record {
      ordered = rw same h.ordered;
      met_sized = h.met_sized;
      ranks_sized = length-set ranks u (length left) ∙ h.ranks_sized;
      firsts_sized = h.firsts_sized;
      found_sized = h.found_sized;
      looked_sized = h.looked_sized;
      counted = let c = h.counted in omega arith;
      placed = λ v is. rw same (h.placed v is);
      marked = λ i v at. h.marked i v (rw same at at);
      early = λ i v at. let b = h.early i v (rw same at at) in omega arith;
      ranked = λ i v at. elim (get_snoc left u i v at) [
        | inl old ↦
            let there : IsPlace (left ++ u ∷ work) i v = get_more left (u ∷ work) i v old in
            let short : i < length left = slice_get_within left i v old in
            let apart : v ≡ u → ⊥ = λ e. let twice = h.ordered.simple i (length left) u (rw e at there) here in omega arith in
            set_other ranks u v (length left) apart ∙ h.ranked i v old
        | inr e ↦ rw (← e.1, e.0) (set_same ranks u r.0 (length left) r.1)
      ];
      done = λ i v at. elim (get_snoc left u i v at) [ inl old ↦ h.done i v old | inr e ↦ subst (IsLooked graph looked) e.1 all ];
      bounded = h.bounded;
    }

-- the links lead to the last node in work
module _ {graph : List Node} {left : List ℕ} {met : List Bool} {ranks firsts : List ℕ} {found : List (Option Link)} {looked : List ℕ}
    (trail : List Link) (u : ℕ) (h : Sound graph left (reverse (path_to trail u)) met ranks firsts found looked) where
  abbrev rest : List ℕ
  rest = reverse (map (λ l. l.from) trail)

  at_end : Sound graph left (u ∷ rest) met ranks firsts found looked
  at_end = rw (work_to trail u) at h

  last_here : IsPlace (left ++ u ∷ rest) (length left) u
  last_here = insert_here left rest u

  pub last_inside : u < length graph
  last_inside = at_end.ordered.inside (length left) u last_here

  -- an edge from it leads to a node that was met
  pub stays : (n : ℕ) (e : Edge) → slice_get looked u ≡ Some n → slice_get (edges_of graph u) n ≡ Some e → IsMet met e.target
      → Sound graph left (reverse (path_to trail u)) met ranks firsts found (slice_set looked u (n + 1))
  stays n e next edge is =
      rw (work_to trail u) (sound_looked at_end (length left) u n e next edge last_here (leads_met at_end e.target is))

  -- it leads to a new node
  pub goes_on : (more : List Link) (l : Link) (n : ℕ) → l.from ≡ u → more ≡ trail ++ l ∷ []
      → slice_get looked u ≡ Some n → slice_get (edges_of graph u) n ≡ Some l.edge
      → l.edge.target < length graph → slice_get met l.edge.target ≡ Some false
      → Sound graph left (reverse (path_to more l.edge.target)) (slice_set met l.edge.target true) ranks
      (slice_set firsts l.edge.target (length left)) (slice_set found l.edge.target (Some l)) (slice_set looked u (n + 1))
  goes_on more l n from is next edge inside new =
      let t : ℕ = l.edge.target in
      let stands : Stands graph l = (n, rw from edge) in
      let link : IsLinkFrom graph (left ++ u ∷ rest) (length left) t (Some l) =
      record { link = l; is = refl; stands = stands; leads = refl; from = rw from last_here } in
      let entered = sound_met at_end t (Some l) inside new (λ i v at past. link) in
      let after = insert_after left (u ∷ rest) t (length left) u last_here in
      let leads : LeadsBack (left ++ t ∷ u ∷ rest) (slice_set firsts t (length left)) after.place t =
      record { place = length left; is = insert_here left (u ∷ rest) t; back = inl (omega arith) } in
      let path : reverse (path_to more t) ≡ t ∷ u ∷ rest =
      ap (λ ls. reverse (path_to ls t)) is ∙ work_more trail l t ∙ ap (λ v. t ∷ reverse (path_to trail v)) from
      ∙ ap (λ ns. t ∷ ns) (work_to trail u) in
      rw path (sound_looked entered after.place u n l.edge next edge after.is leads)

  -- it is left, and the one before it is the last
  pub goes_back : (more : List ℕ) (front : List Link) (l : Link)
      → more ≡ left ++ u ∷ [] → trail ≡ front ++ l ∷ [] → IsLooked graph looked u
      → Sound graph more (reverse (path_to front l.from)) met (slice_set ranks u (length left)) firsts found looked
  goes_back more front l next is all =
      let path : reverse (path_to trail u) ≡ u ∷ reverse (path_to front l.from) =
      ap (λ ls. reverse (path_to ls u)) is ∙ work_more front l u in
      rw next (sound_left u all (rw path at h))

  -- it is left, and was the root
  pub ends : (more : List ℕ) → more ≡ left ++ u ∷ [] → trail ≡ [] → IsLooked graph looked u
      → Sound graph more [] met (slice_set ranks u (length left)) firsts found looked
  ends more next none all =
      let path : reverse (path_to trail u) ≡ u ∷ [] = ap (λ ls. reverse (path_to ls u)) none in
      rw next (sound_left u all (rw path at h))

-- a new root is met
pub begins : {graph : List Node} {left : List ℕ} {met : List Bool} {ranks firsts : List ℕ} {found : List (Option Link)} {looked : List ℕ}
    (trail : List Link) (root : ℕ) → trail ≡ [] → slice_get met root ≡ Some false → Sound graph left [] met ranks firsts found looked
    → Sound graph left (reverse (path_to trail root)) (slice_set met root true) ranks (slice_set firsts root (length left)) found looked
begins {graph = graph} {left = left} {met = met} {found = found} trail root none new h =
    let met_sized : length met ≡ length graph = h.met_sized in
    let found_sized : length found ≡ length graph = h.found_sized in
    let room : root < length met = slice_get_within met root false new in
    let o = get_some found root (omega arith) in
    let path : reverse (path_to trail root) ≡ root ∷ [] = ap (λ ls. reverse (path_to ls root)) none in
    let past : (i v : ℕ) → IsPlace (left ++ []) i v → length left ≤ i → IsLinkFrom graph (left ++ []) (length left) root o.0 =
    λ i v at le.
    let short : i < length (left ++ []) = slice_get_within (left ++ []) i v at in
    absurd (omega (arith, length-append left [])) in
    let r = sound_met h root o.0 (omega arith) new past in
    rw path (rw (set_itself found root o.0 o.1) at r)
