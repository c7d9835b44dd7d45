-- The links that lead to a node are those that stand.
use Rattle.std.proofs.Common.{◌≡◌, ℕ, ◌<◌, List, [], ◌∷◌, length, map, refl, subst, ap, arith, Some, inl, inr, ◌⊎◌, zero, suc, slice_get, ◌∙◌, true, filter, Bool}
use Rattle.std.specs.List.{Contains, flat_map, range_with_len}
use Rattle.std.proofs.lemmas.Bool.{cases_Bool, eq-eqb, eqb-true}
use Rattle.std.proofs.lemmas.List.FromFn.{get_or-range_with_len, length-range_with_len}
use Rattle.std.proofs.lemmas.List.Elements.{Contains-append_cases, Contains-append_left, Contains-append_right}
use Rattle.fragment_graph.proofs.Lists.{contains_at, contains_get, contains_none, contains_one, none_some, one_contains, same_some}
use Rattle.type_system_circles.specs.declared.graph.Link.{Link}
use Rattle.type_system_circles.specs.declared.graph.Node.{Node}
use Rattle.type_system_circles.specs.Graph.{Stands, edges_of}
use Rattle.type_system_circles.proofs.Named.{stands_inside}
use Rattle.graph_ways.specs.Ways.{leading_to, link_from, links_from, links_to}

module _ {X Y : Type 0} (f : X → List Y) where
  flat_real : (xs : List X) (y : Y) → Contains (flat_map f xs) y → (x : X) × Contains xs x × Contains (f x) y
  flat_real [] y h = absurd (contains_none y h)
  flat_real (x ∷ xs) y h = elim (Contains-append_cases (f x) (flat_map f xs) y h) [
    | inl here ↦ (x, Contains-append_left (x ∷ []) xs x (one_contains x), here)
    | inr there ↦ let r = flat_real xs y there in (r.0, Contains-append_right (x ∷ []) xs r.0 r.1, r.2)
  ]

  flat_whole : (xs : List X) (x : X) (y : Y) → Contains xs x → Contains (f x) y → Contains (flat_map f xs) y
  flat_whole [] x y c h = absurd (contains_none x c)
  flat_whole (z ∷ xs) x y c h = elim (Contains-append_cases (z ∷ []) xs x c) [
    | inl here ↦ Contains-append_left (f z) (flat_map f xs) y (rw (contains_one z x here) h)
    | inr there ↦ Contains-append_right (f z) (flat_map f xs) y (flat_whole xs x y there h)
  ]

cons_cases : {X : Type 0} (z : X) (xs : List X) (k : ℕ) (x : X) → slice_get (z ∷ xs) k ≡ Some x
    → (z ≡ x) ⊎ ((j : ℕ) × (slice_get xs j ≡ Some x))
cons_cases z xs zero x h = inl (same_some z x h)
cons_cases z xs (suc k) x h = inr (k, h)

module _ {X : Type 0} (p : X → Bool) where
  filter_real : (xs : List X) (k : ℕ) (x : X) → slice_get (filter p xs) k ≡ Some x → (p x ≡ true) × Contains xs x
  filter_real [] k x h = absurd (none_some x h)
  filter_real (z ∷ xs) k x h = elim (cases_Bool (p z)) [
    | inl passes ↦ elim (cons_cases z (filter p xs) k x (rw passes at h)) [
      | inl same ↦ (rw (← same) passes, Contains-append_left (z ∷ []) xs x (rw same (one_contains x)))
      | inr later ↦ let r = filter_real xs later.0 x later.1 in (r.0, Contains-append_right (z ∷ []) xs x r.1)
    ]
    | inr fails ↦ let r = filter_real xs k x (rw fails at h) in (r.0, Contains-append_right (z ∷ []) xs x r.1)
  ]

  filter_whole : (xs : List X) (k : ℕ) (x : X) → slice_get xs k ≡ Some x → p x ≡ true → (j : ℕ) × (slice_get (filter p xs) j ≡ Some x)
  filter_whole [] k x h passes = absurd (none_some x h)
  filter_whole (z ∷ xs) zero x h passes =
      let same = same_some z x h in
      let now : p z ≡ true = rw same passes in
      (0, rw now h)
  filter_whole (z ∷ xs) (suc k) x h passes =
      let r = filter_whole xs k x h passes in
      elim (cases_Bool (p z)) [
        | inl now ↦ (suc r.0, rw now r.1)
        | inr not ↦ (r.0, rw not r.1)
      ]

map_real : {X Y : Type 0} (f : X → Y) (xs : List X) (k : ℕ) (y : Y) → slice_get (map f xs) k ≡ Some y
    → (x : X) × (slice_get xs k ≡ Some x) × (f x ≡ y)
map_real f [] k y h = absurd (none_some y h)
map_real f (x ∷ xs) zero y h = (x, refl, same_some (f x) y h)
map_real f (x ∷ xs) (suc k) y h = map_real f xs k y h

map_whole : {X Y : Type 0} (f : X → Y) (xs : List X) (k : ℕ) (x : X) → slice_get xs k ≡ Some x → slice_get (map f xs) k ≡ Some (f x)
map_whole f [] k x h = absurd (none_some x h)
map_whole f (z ∷ xs) zero x h = ap (λ y. Some (f y)) (same_some z x h)
map_whole f (z ∷ xs) (suc k) x h = map_whole f xs k x h

module _ (graph : List Node) where
  from_at : (v k : ℕ) (l : Link) → slice_get (links_from graph v) k ≡ Some l → slice_get (edges_of graph l.from) k ≡ Some l.edge
  from_at v k l h =
      let m = map_real (link_from v) (edges_of graph v) k l h in
      let edge : m.0 ≡ l.edge = ap (λ (x : Link). x.edge) m.2 in
      let from : v ≡ l.from = ap (λ (x : Link). x.from) m.2 in
      subst (λ (u : ℕ). slice_get (edges_of graph u) k ≡ Some l.edge) from (m.1 ∙ ap Some edge)

  from_real : (v : ℕ) (l : Link) → Contains (links_from graph v) l → Stands graph l
  from_real v l h = let g = contains_get (links_from graph v) l h in (g.0, from_at v g.0 l g.1)

  from_whole : (l : Link) → Stands graph l → Contains (links_from graph l.from) l
  from_whole l s = contains_at (links_from graph l.from) s.0 l (map_whole (link_from l.from) (edges_of graph l.from) s.0 l.edge s.1)

  range_has : (n v : ℕ) → v < n → Contains (range_with_len 0 n) v
  range_has n v lt = (v, rw (length-range_with_len 0 n) lt, get_or-range_with_len 0 n v v lt ∙ omega arith)

  pub to_real : (v k : ℕ) (l : Link) → slice_get (links_to graph v) k ≡ Some l → Stands graph l × (l.edge.target ≡ v)
  unfolding links_to leading_to
  to_real v k l h =
      let r = filter_real _ (flat_map (links_from graph) (range_with_len 0 (length graph))) k l h in
      let f = flat_real (links_from graph) (range_with_len 0 (length graph)) l r.1 in
      (from_real f.0 l f.2, eqb-true l.edge.target v r.0)

  pub to_whole : (l : Link) → Stands graph l → (k : ℕ) × (slice_get (links_to graph l.edge.target) k ≡ Some l)
  unfolding links_to leading_to
  to_whole l s =
      let c = flat_whole (links_from graph) (range_with_len 0 (length graph)) l.from l
      (range_has (length graph) l.from (stands_inside graph l s)) (from_whole l s) in
      let g = contains_get (flat_map (links_from graph) (range_with_len 0 (length graph))) l c in
      filter_whole _ (flat_map (links_from graph) (range_with_len 0 (length graph))) g.0 l g.1 (eq-eqb l.edge.target l.edge.target refl)
