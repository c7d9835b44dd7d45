-- What holds when each node is finished.
use Rattle.std.proofs.Common.{◌≡◌, ℕ, ◌<◌, ◌≤◌, List, [], ◌∷◌, length, refl, sym, subst, ap, arith, inl, inr, ◌⊎◌, Some, slice_get, ◌∙◌}
use Rattle.std.specs.List.{All, Contains}
use Rattle.std.proofs.lemmas.Option.{slice_get_within, slice_get_past}
use Rattle.std.specs.Option.{option_map_or}
use Rattle.std.proofs.lemmas.List.Elements.{All-head, Contains-append_right}
use Rattle.fragment_graph.proofs.Lists.{same_item, none_some, get_some, contains_none}
use Rattle.fragment_graph.proofs.Judge.{below_length}
use Rattle.type_system_circles.specs.declared.graph.Edge.{Edge}
use Rattle.type_system_circles.specs.declared.graph.Link.{Link}
use Rattle.type_system_circles.specs.declared.graph.Node.{Node}
use Rattle.type_system_circles.specs.declared.search.Circle.{Circle}
use Rattle.type_system_circles.specs.declared.search.Colour.{Colour}
use Rattle.type_system_circles.specs.declared.search.Colour.TheVariants.{New, InWork, Finished}
use Rattle.type_system_circles.specs.Graph.{FindsCircles, IsCircle, IsWalk, Stands, Told, edges_of}
use Rattle.type_system_circles.specs.Sound.{Sound}
use Rattle.type_system_circles.proofs.Steps.{same_rank}

-- a link stands at a node of the graph
inside : (graph : List Node) (l : Link) → Stands graph l → l.from < length graph
inside graph l s = below_length (length graph) l.from (λ past.
    none_some l.edge (subst (λ (es : List Edge). slice_get es s.0 ≡ Some l.edge) (ap (λ o. option_map_or (λ (n : Node). n.edges.items) o []) (slice_get_past graph l.from past)) s.1))

later : (xs : List Link) (x l : Link) → Contains xs l → Contains (x ∷ xs) l
later xs x l h = Contains-append_right (x ∷ []) xs l h

no_circles : (graph : List Node) (circles : List Circle) → All (λ c. IsCircle graph c.links.items) circles → ((ls : List Link) → IsCircle graph ls → ⊥) → circles ≡ []
no_circles graph [] all none = refl
no_circles graph (c ∷ cs) all none = absurd (none c.links.items (All-head (λ (z : Circle). IsCircle graph z.links.items) c cs all))

at_front : (x : Link) (xs : List Link) → Contains (x ∷ xs) x
at_front x xs = (0, omega arith, refl)

module _ (graph : List Node) (cs : List Colour) (looked : List ℕ) (circles : List Circle) (count : ℕ)
    (sound : Sound graph [] [] cs looked circles count) (begun : (v : ℕ) → v < length graph → slice_get cs v ≡ Some New → ⊥) where
  finished : (v : ℕ) (c : Colour) → v < length graph → slice_get cs v ≡ Some c → (r : ℕ) × (c ≡ Finished r)
  finished v New lt g = absurd (begun v lt g)
  finished v (InWork i) lt g = absurd (none_some v (sound.stands i v g))
  finished v (Finished r) lt g = (r, refl)

  rank : (v : ℕ) → v < length graph → (r : ℕ) × (slice_get cs v ≡ Some (Finished r))
  rank v lt =
      let sized : length cs ≡ length graph = sound.sized in
      let at = get_some cs v (omega (arith, lt, sized)) in
      let f = finished v at.0 lt at.1 in
      (f.0, at.1 ∙ ap Some f.1)

  abbrev IsLower : ℕ → ℕ → Type 0
  IsLower r w = (s : ℕ) × (slice_get cs w ≡ Some (Finished s)) × (s < r)

  lower : (l : Link) → Stands graph l → (r : ℕ) → slice_get cs l.from ≡ Some (Finished r) → Told circles l ⊎ IsLower r l.edge.target
  lower l s r g =
      let lt : l.from < length graph = inside graph l s in
      let counted : length looked ≡ length graph = sound.counted in
      let n = get_some looked l.from (omega (arith, lt, counted)) in
      let most : length (edges_of graph l.from) ≤ n.0 = sound.complete l.from r n.0 g n.1 in
      let room : s.0 < length (edges_of graph l.from) = slice_get_within (edges_of graph l.from) s.0 l.edge s.1 in
      elim (sound.settled l.from n.0 s.0 l.edge n.1 (omega (arith, most, room)) s.1) [
        | inl told ↦ inl told
        | inr o ↦ elim o [
          | inl on ↦ absurd (contains_none l on)
          | inr b ↦ inr (b.0, b.1, b.2 r g)
        ]
      ]

  abbrev IsMet : List Link → Type 0
  IsMet ls = (l : Link) × Contains ls l × Told circles l

  falls : (a : ℕ) (ls : List Link) (b r : ℕ) → IsWalk graph a ls b → slice_get cs a ≡ Some (Finished r) → IsMet ls ⊎ ((s : ℕ) × (slice_get cs b ≡ Some (Finished s)) × (s ≤ r))
  falls a [] b r w g = inr (r, subst (λ (z : ℕ). slice_get cs z ≡ Some (Finished r)) w g, omega arith)
  falls a (l ∷ ls) b r w g = elim (lower l w.1 r (subst (λ (z : ℕ). slice_get cs z ≡ Some (Finished r)) (sym w.0) g)) [
    | inl told ↦ inl (l, at_front l ls, told)
    | inr low ↦ elim (falls l.edge.target ls b low.0 w.2 low.1) [
      | inl met ↦ inl (met.0, later ls l met.0 met.1, met.2)
      | inr end ↦ let first : low.0 < r = low.2 in let then : end.0 ≤ low.0 = end.2 in inr (end.0, end.1, omega (arith, first, then))
    ]
  ]

  met : (ls : List Link) (v : ℕ) → IsWalk graph v ls v → 0 < length ls → IsMet ls
  met [] v w some = absurd (omega (arith, some))
  met (l ∷ ls) v w some =
      let at = rank l.from (inside graph l w.1) in
      elim (lower l w.1 at.0 at.1) [
        | inl told ↦ (l, at_front l ls, told)
        | inr low ↦ elim (falls l.edge.target ls v low.0 w.2 low.1) [
          | inl m ↦ (m.0, later ls l m.0 m.1, m.2)
          | inr end ↦
              let same : Finished at.0 ≡ Finished end.0 = same_item (Finished at.0) (Finished end.0) (slice_get cs v) (subst (λ (z : ℕ). slice_get cs z ≡ Some (Finished at.0)) w.0 at.1) end.1 in
              let first : low.0 < at.0 = low.2 in
              let then : end.0 ≤ low.0 = end.2 in
              absurd (omega (arith, same_rank at.0 end.0 same, first, then))
        ]
      ]

  pub found : FindsCircles graph circles
  found = record {
    real = sound.real;
    simple = sound.simple;
    first = sound.first;
    enough = λ ls c. met ls c.node c.walk c.some;
    none = (
      λ e ls c.
          let m = met ls c.node c.walk c.some in
          contains_none m.2.0 (subst (λ (cs : List Circle). Contains cs m.2.0) e m.2.1),
      λ none. no_circles graph circles sound.real none,
    );
  }

  -- each edge of a node was looked at once
  pub looked_once : (v n : ℕ) → slice_get looked v ≡ Some n → n ≡ length (edges_of graph v)
  looked_once v n at =
      let counted : length looked ≡ length graph = sound.counted in
      let room : v < length looked = slice_get_within looked v n at in
      let r = rank v (omega (arith, counted, room)) in
      let most : length (edges_of graph v) ≤ n = sound.complete v r.0 n r.1 at in
      let least : n ≤ length (edges_of graph v) = sound.bounded v n at in
      omega (arith, most, least)
