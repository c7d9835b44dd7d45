-- The links that lead to each node, as they are added.
use Rattle.std.proofs.Common.{◌≡◌, ℕ, ◌+◌, ◌<◌, List, [], ◌∷◌, ◌++◌, length, length-append, length-set, get_or, map, refl, sym, ap, arith, add-one, append_assoc, Some, inl, inr, zero, suc, slice_get, slice_set, take, ◌∙◌, cond}
use Rattle.std.specs.List.{All, flat_map, range_with_len}
use Rattle.std.proofs.lemmas.Bool.{cases_eq, eq-eqb, ne_eqb}
use Rattle.std.proofs.lemmas.List.{append-nil, flat_map_more, map-append, take_more}
use Rattle.std.proofs.lemmas.List.Elements.{filter-append}
use Rattle.std.proofs.lemmas.Option.{slice_get-get_or}
use Rattle.fragment_graph.proofs.Lists.{get_snoc, none_some, same_item, set_other, set_same}
use Rattle.type_system_circles.specs.declared.graph.Edge.{Edge}
use Rattle.type_system_circles.specs.declared.graph.Link.{Link}
use Rattle.type_system_circles.specs.declared.graph.Node.{Node}
use Rattle.type_system_circles.specs.Graph.{IsGraph, edges_of}
use Rattle.graph_ways.specs.declared.entering.Entering.{Entering}
use Rattle.graph_ways.specs.Entering.{AreBare, AreEntering, Enters}
use Rattle.graph_ways.specs.Ways.{leading_to, link_from, links_from, links_to}

leading-append : (v : ℕ) (a b : List Link) → leading_to v (a ++ b) ≡ leading_to v a ++ leading_to v b
unfolding leading_to
leading-append v a b = filter-append _ a b

leading-nil : (v : ℕ) → leading_to v [] ≡ []
unfolding leading_to
leading-nil v = refl

leading_same : (l : Link) → leading_to l.edge.target (l ∷ []) ≡ l ∷ []
unfolding leading_to
leading_same l = ap (λ b. cond b (l ∷ []) []) (eq-eqb l.edge.target l.edge.target refl)

leading_other : (v : ℕ) (l : Link) → (v ≡ l.edge.target → ⊥) → leading_to v (l ∷ []) ≡ []
unfolding leading_to
leading_other v l ne = ap (λ b. cond b (l ∷ []) []) (ne_eqb l.edge.target v (λ e. ne (sym e)))

pub enters_none : (es : List Entering) → Enters [] es es
enters_none es = record {
  sized = refl;
  added = λ v e is. (e, is, sym (append-nil e.links.items) ∙ ap (λ ls. e.links.items ++ ls) (sym (leading-nil v)));
}

pub enters_both : (a b : List Link) (x y z : List Entering) → Enters a x y → Enters b y z → Enters (a ++ b) x z
enters_both a b x y z f g = record {
  sized = g.sized ∙ f.sized;
  added = λ v e is.
      let p = g.added v e is in
      let q = f.added v p.0 p.1 in (
        q.0,
        q.1,
        p.2 ∙ ap (λ ls. ls ++ leading_to v b) q.2 ∙ append_assoc q.0.links.items (leading_to v a) (leading_to v b)
            ∙ ap (λ ls. q.0.links.items ++ ls) (sym (leading-append v a b)),
      );
}

-- one link more
pub enters_one : (old new : List Entering) (l : Link) (n m : Entering) → slice_get old l.edge.target ≡ Some n
    → new ≡ slice_set old l.edge.target m → m.links.items ≡ n.links.items ++ l ∷ [] → Enters (l ∷ []) old new
enters_one old new l n m at is more = record {
  sized = ap length is ∙ length-set old l.edge.target m;
  added = λ v e there. elim (cases_eq v l.edge.target) [
    | inl same ↦
        let here = set_same old l.edge.target n m at in
        let me : m ≡ e = same_item m e (slice_get new v) (rw (same, is) here) there in
        let all = ap (λ (x : Entering). x.links.items) (sym me) ∙ more in
        (n, rw same at, all ∙ ap (λ ls. n.links.items ++ ls) (rw same (sym (leading_same l))))
    | inr ne ↦
        let other = set_other old l.edge.target v m ne in
        let was : slice_get old v ≡ Some e = sym other ∙ ap (λ es. slice_get es v) (sym is) ∙ there in
        (e, was, sym (append-nil e.links.items) ∙ ap (λ ls. e.links.items ++ ls) (sym (leading_other v l ne)))
  ];
}

pub enters_next : (from : ℕ) (xs : List Edge) (i : ℕ) (x d : Edge) (old mid new : List Entering) → i < length xs → x ≡ get_or xs i d
    → Enters (map (link_from from) (take i xs)) old mid → Enters (link_from from x ∷ []) mid new
    → Enters (map (link_from from) (take (i + 1) xs)) old new
enters_next from xs i x d old mid new room is seen more =
    let e : map (link_from from) (take (i + 1) xs) ≡ map (link_from from) (take i xs) ++ link_from from x ∷ [] =
    ap (map (link_from from)) (take_more xs i d room) ∙ map-append (link_from from) (take i xs) (get_or xs i d ∷ [])
    ∙ ap (λ (y : Edge). map (link_from from) (take i xs) ++ link_from from y ∷ []) (sym is) in
    rw e (enters_both (map (link_from from) (take i xs)) (link_from from x ∷ []) old mid new seen more)

range_more : (a n : ℕ) → range_with_len a (suc n) ≡ range_with_len a n ++ (a + n) ∷ []
range_more a zero = let e : a ≡ a + 0 = omega arith in ap (λ (x : ℕ). x ∷ []) e
range_more a (suc n) =
    let e : (a + 1) + n ≡ a + suc n = omega arith in
    ap (λ xs. a ∷ xs) (range_more (a + 1) n ∙ ap (λ (x : ℕ). range_with_len (a + 1) n ++ x ∷ []) e)

flat_range : (f : ℕ → List Link) (n : ℕ) → flat_map f (range_with_len 0 (n + 1)) ≡ flat_map f (range_with_len 0 n) ++ f n
flat_range f n =
    let e : 0 + n ≡ n = omega arith in
    ap (λ (k : ℕ). flat_map f (range_with_len 0 k)) (add-one n)
    ∙ ap (flat_map f) (range_more 0 n ∙ ap (λ (x : ℕ). range_with_len 0 n ++ x ∷ []) e)
    ∙ sym (flat_map_more f [] (range_with_len 0 n) n)

-- the links from the nodes before a number, and from that of the number
pub enters_node : (graph : List Node) (n : ℕ) (old mid new : List Entering)
    → Enters (flat_map (links_from graph) (range_with_len 0 n)) old mid → Enters (links_from graph n) mid new
    → Enters (flat_map (links_from graph) (range_with_len 0 (n + 1))) old new
enters_node graph n old mid new seen more =
    rw (flat_range (links_from graph) n)
    (enters_both (flat_map (links_from graph) (range_with_len 0 n)) (links_from graph n) old mid new seen more)

pub bare_none : AreBare 0 []
bare_none = record { sized = refl; none = λ v e is. absurd (none_some e is) }

pub bare_more : (count : ℕ) (es new : List Entering) (n : Entering) → new ≡ es ++ n ∷ [] → n.links.items ≡ [] → AreBare count es
    → AreBare (count + 1) new
bare_more count es new n is empty h = record {
  sized = let old : length es ≡ count = h.sized in omega (arith, ap length is, length-append es (n ∷ []));
  none = λ v e at. elim (get_snoc es n v e (rw (← is) at)) [
    | inl was ↦ h.none v e was
    | inr last ↦ rw (← last.1) empty
  ];
}

-- of bare nodes the links of the graph were added
pub entered_all : (graph : List Node) (count : ℕ) (bare es : List Entering) → count ≡ length graph → AreBare (length graph) bare
    → Enters (flat_map (links_from graph) (range_with_len 0 count)) bare es → AreEntering graph es
unfolding links_to
entered_all graph count bare es is none all = record {
  sized = all.sized ∙ none.sized;
  own = λ v e at.
      let p = all.added v e at in
      p.2 ∙ ap (λ ls. ls ++ leading_to v (flat_map (links_from graph) (range_with_len 0 count))) (none.none v p.0 p.1)
      ∙ ap (λ n. leading_to v (flat_map (links_from graph) (range_with_len 0 n))) is;
}

-- the targets of the edges of a node
pub targets_inside : (graph : List Node) (v n : ℕ) → n ≡ length graph → IsGraph graph → All (λ e. e.target < n) (edges_of graph v)
targets_inside graph v n is g k d room = rw is (g v k (get_or (edges_of graph v) k d) (slice_get-get_or (edges_of graph v) k d room))
