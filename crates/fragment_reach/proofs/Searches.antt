-- What holds in the search, and at its end.
use Rattle.std.proofs.Common.{◌≡◌, ℕ, ◌+◌, ◌<◌, ◌≤◌, List, length, refl, sym, subst, ap, arith, inl, inr, Bool, Some, slice_get, ◌∙◌}
use Rattle.std.specs.List.{Contains}
use Rattle.std.proofs.lemmas.Bool.{cases_lt}
use Rattle.std.proofs.lemmas.Option.{slice_get_within}
use Rattle.fragment_graph.specs.declared.graph.Node.{Node}
use Rattle.fragment_graph.specs.declared.graph.Spread.{Spread}
use Rattle.fragment_graph.specs.Graph.{spreads_of}
use Rattle.fragment_graph.proofs.Lists.{same_item, get_some}
use Rattle.fragment_graph.proofs.Judge.{inside, below_length}
use Rattle.fragment_reach.specs.Search.{Reached, begin, further, IsMarked, WellMarked, Marks, MarksReached, Searching}

module _ (graph : List Node) (starts : List Spread) where
  pub started : (marks marks' : List Bool) (order order' : List ℕ) → length marks ≡ length graph → ((v : ℕ) → IsMarked marks v → ⊥)
      → Marks starts order marks order' marks' → WellMarked order' marks' → Searching graph starts order' marks' 0
  started marks marks' order order' sized none m w = record {
    well = w;
    sized = m.sized ∙ sized;
    real = λ v h. elim (m.only v h) [
      | inl was ↦ absurd (none v was)
      | inr x ↦ subst (Reached graph starts) x.2 (begin x.0 x.1)
    ];
    begun = λ x c l. m.here x c (omega (arith, l, sized));
    closed = λ i u l. absurd (omega (arith, l));
  }

  module _ (order order' : List ℕ) (marks marks' : List Bool) (next u : ℕ) (s : Searching graph starts order marks next) (at : slice_get order next ≡ Some u)
      (m : Marks (spreads_of graph u) order marks order' marks') (w : WellMarked order' marks') where
    -- what was listed is listed still
    listed_was : (i v : ℕ) → i < next → slice_get order' i ≡ Some v → slice_get order i ≡ Some v
    listed_was i v l h =
        let room = slice_get_within order next u at in
        let g = get_some order i (omega (arith, l, room)) in
        g.1 ∙ ap Some (same_item g.0 v (slice_get order' i) (m.listed i g.0 g.1) h)

    closed_now : (i v : ℕ) → i < next + 1 → slice_get order' i ≡ Some v → (x : Spread) → Contains (spreads_of graph v) x → x.target < length graph → IsMarked marks' x.target
    closed_now i v l h x c l' = elim (cases_lt i next) [
      | inl before ↦ m.kept x.target (s.closed i v before (listed_was i v before h) x c l')
      | inr after ↦
          let here : i ≡ next = omega (arith, l, after) in
          let is : u ≡ v = same_item u v (slice_get order' next) (m.listed next u at) (subst (λ (k : ℕ). slice_get order' k ≡ Some v) here h) in
          let c' : Contains (spreads_of graph u) x = subst (λ (k : ℕ). Contains (spreads_of graph k) x) (sym is) c in
          let sized = s.sized in
          m.here x c' (omega (arith, l', sized))
    ]

    pub searched_on : Searching graph starts order' marks' (next + 1)
    searched_on = record {
      well = w;
      sized = m.sized ∙ s.sized;
      real = λ v h. elim (m.only v h) [
        | inl was ↦ s.real v was
        | inr x ↦ subst (Reached graph starts) x.2 (further (s.real u (s.well.marked next u at)) x.0 x.1)
      ];
      begun = λ x c l. m.kept x.target (s.begun x c l);
      closed = closed_now;
    }

  -- no more nodes are listed than there are
  pub room : (order : List ℕ) (marks : List Bool) (next : ℕ) → Searching graph starts order marks next → length order ≤ length graph
  room order marks next s = let c = s.well.counted in let e = s.sized in omega (arith, c, e)

  module _ (order : List ℕ) (marks : List Bool) (next : ℕ) (s : Searching graph starts order marks next) (done : length order ≤ next) where
    reached_marked : (v : ℕ) → Reached graph starts v → v < length graph → IsMarked marks v
    reached_marked v (begin x c) l = s.begun x c l
    reached_marked v (further {u = u} r x c) l =
        let low : u < length graph = below_length (length graph) u (inside graph u x.target (x, c, refl)) in
        let i = s.well.listed u (reached_marked u r low) in
        let within = slice_get_within order i.0 u i.1 in
        s.closed i.0 u (omega (arith, within, done)) i.1 x c l

    pub search_done : MarksReached graph starts marks
    search_done = record { sized = s.sized; real = s.real; all = λ v l r. reached_marked v r l }
