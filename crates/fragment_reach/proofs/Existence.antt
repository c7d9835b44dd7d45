-- Whatever the graph, there are marks and a list as a search leaves them. So of a search that would find nothing it is known what it
-- would find.
use Rattle.std.proofs.Common.{◌≡◌, ℕ, suc, zero, ◌+◌, ◌≤◌, List, [], ◌∷◌, ◌++◌, length, refl, sym, subst, arith, inl, inr, Bool, true, false, Option, Some, None, slice_get, slice_set, ◌∙◌, replicate, append-nil, append_assoc}
use Rattle.std.proofs.lemmas.Bool.{cases_lt}
use Rattle.fragment_graph.specs.declared.graph.Node.{Node}
use Rattle.fragment_graph.specs.declared.graph.Spread.{Spread}
use Rattle.fragment_graph.specs.Graph.{spreads_of}
use Rattle.fragment_graph.proofs.Lists.{none_some, same_some, get_some}
use Rattle.fragment_reach.specs.Search.{IsClear, MarksReached, Marks, Searching, WellMarked}
use Rattle.fragment_reach.proofs.Marking.{clear_first, marks_none, marks_one, marks_seen, marks_then, well_first, well_one}
use Rattle.fragment_reach.proofs.Searches.{room, search_done, searched_on, started}

differ : true ≡ false → ⊥
differ e = cc

-- marks after these spreads
abbrev Marked : List Spread → List ℕ → List Bool → Type 0
Marked xs order marks = (order' : List ℕ) × (marks' : List Bool) × Marks xs order marks order' marks' × WellMarked order' marks'

mark_by : (order : List ℕ) (marks : List Bool) (x : Spread) → WellMarked order marks → (b : Option Bool) → slice_get marks x.target ≡ b → Marked (x ∷ []) order marks
mark_by order marks x w None h = (order, marks, marks_seen order marks x (λ n. none_some false (sym h ∙ n)), w)
mark_by order marks x w (Some true) h = (order, marks, marks_seen order marks x (λ n. differ (same_some true false (sym h ∙ n))), w)
mark_by order marks x w (Some false) h = (order ++ x.target ∷ [], slice_set marks x.target true, marks_one order marks x w h, well_one order marks x w h)

mark_more : (done todo : List Spread) (order : List ℕ) (marks : List Bool) (o : List ℕ) (m : List Bool) → Marks done order marks o m → WellMarked o m → Marked (done ++ todo) order marks
mark_more done [] order marks o m f w = (o, m, subst (λ zs. Marks zs order marks o m) (sym (append-nil done)) f, w)
mark_more done (x ∷ todo) order marks o m f w =
    let (p, n, g, w') = mark_by o m x w (slice_get m x.target) refl in
    let (q, k, all, w'') = mark_more (done ++ x ∷ []) todo order marks p n (marks_then done x order o p marks m n f g) w' in
    (q, k, subst (λ zs. Marks zs order marks q k) (append_assoc done (x ∷ []) todo) all, w'')

mark_these : (xs : List Spread) (order : List ℕ) (marks : List Bool) → WellMarked order marks → Marked xs order marks
mark_these xs order marks w = mark_more [] xs order marks order marks (marks_none order marks) w

-- the nodes that are reached, marked and listed
abbrev pub Explored : List Node → List Spread → Type 0
Explored graph starts = (order : List ℕ) × (marks : List Bool) × MarksReached graph starts marks × WellMarked order marks

module _ (graph : List Node) (starts : List Spread) where
  explore_on : (fuel : ℕ) (order : List ℕ) (marks : List Bool) (next : ℕ) → Searching graph starts order marks next → length graph ≤ next + fuel → Explored graph starts
  explore_on zero order marks next s l =
      let r = room graph starts order marks next s in
      (order, marks, search_done graph starts order marks next s (omega (arith, r, l)), s.well)
  explore_on (suc fuel) order marks next s l = elim (cases_lt next (length order)) [
    | inl more ↦
        let (u, at) = get_some order next more in
        let (o, m, f, w) = mark_these (spreads_of graph u) order marks s.well in
        explore_on fuel o m (next + 1) (searched_on graph starts order o marks m next u s at f w) (omega (arith, l))
    | inr done ↦ (order, marks, search_done graph starts order marks next s (omega (arith, done)), s.well)
  ]

  pub explored : Explored graph starts
  explored =
      let n = length graph in
      let clear : IsClear n [] (replicate n false) = clear_first n [] (replicate n false) refl refl in
      let (o, m, f, w) = mark_these starts [] (replicate n false) (well_first n [] (replicate n false) clear) in
      explore_on n o m 0 (started graph starts (replicate n false) m [] o clear.sized clear.none_marked f w) (omega arith)
