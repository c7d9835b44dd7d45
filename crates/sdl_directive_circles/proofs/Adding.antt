-- Links are added to a graph.
use Rattle.std.proofs.Common.{◌≡◌, ℕ, ◌+◌, ◌<◌, List, [], ◌∷◌, ◌++◌, length, length-append, length-set, get_or, take, refl, sym, subst, ap, arith, Option, None, Some, inl, inr, slice_get, slice_set, ◌∙◌}
use Rattle.std.specs.List.{Contains, flat_map}
use Rattle.std.specs.Option.{option_map_or}
use Rattle.std.proofs.lemmas.Bool.{cases_eq}
use Rattle.std.proofs.lemmas.List.Elements.{Contains-append_cases, Contains-append_left, Contains-append_right}
use Rattle.fragment_graph.proofs.Lists.{contains_none, contains_one, get_last, get_more, get_snoc, none_some, one_contains, set_other, set_same}
use Rattle.type_system_circles.specs.declared.graph.Edge.{Edge}
use Rattle.type_system_circles.specs.declared.graph.Link.{Link}
use Rattle.type_system_circles.specs.declared.graph.Node.{Node}
use Rattle.type_system_circles.specs.Graph.{Stands, edges_of}
use Rattle.sdl_directive_circles.specs.declared.places.Places.{Places}
use Rattle.sdl_directive_circles.specs.Graph.{AddsLinks, AreBare, AreWithin, link, links_between, place_by}
use Rattle.sdl_directive_circles.specs.Uses.{Name}
use Rattle.sdl_directive_circles.proofs.Lists.{flat_next}

pub adds_none : (nodes : List Node) → AddsLinks [] nodes nodes
adds_none nodes = record {
  sized = refl;
  real = λ l s. inl s;
  kept = λ l s. s;
  whole = λ l c. absurd (contains_none l c);
}

pub adds_both : (a b : List Link) (x y z : List Node) → AddsLinks a x y → AddsLinks b y z → AddsLinks (a ++ b) x z
adds_both a b x y z f g = record {
  sized = g.sized ∙ f.sized;
  real = λ l s. elim (g.real l s) [
    | inl mid ↦ elim (f.real l mid) [ inl old ↦ inl old | inr one ↦ inr (Contains-append_left a b l one) ]
    | inr two ↦ inr (Contains-append_right a b l two)
  ];
  kept = λ l s. g.kept l (f.kept l s);
  whole = λ l c. elim (Contains-append_cases a b l c) [ inl one ↦ g.kept l (f.whole l one) | inr two ↦ g.whole l two ];
}

-- the links of the items that were seen, and of the next
pub adds_next : {T : Type 0} (links : T → List Link) (xs : List T) (i : ℕ) (x d : T) (old mid new : List Node) → i < length xs
    → x ≡ get_or xs i d
    → AddsLinks (flat_map links (take i xs)) old mid → AddsLinks (links x) mid new → AddsLinks (flat_map links (take (i + 1) xs)) old new
adds_next links xs i x d old mid new room is seen more =
    subst (λ (ls : List Link). AddsLinks ls old new) (flat_next links xs i x d room is)
    (adds_both (flat_map links (take i xs)) (links x) old mid new seen more)

edges_at : (graph : List Node) (v : ℕ) (o : Option Node) → slice_get graph v ≡ o
    → edges_of graph v ≡ option_map_or (λ (n : Node). n.edges.items) o []
edges_at graph v o is = ap (λ (x : Option Node). option_map_or (λ (n : Node). n.edges.items) x []) is

-- one edge more at a node
pub edge_added : (old new : List Node) (v w : ℕ) (n m : Node) → slice_get old v ≡ Some n → new ≡ slice_set old v m
    → m.edges.items ≡ n.edges.items ++ record { target = w; field = 0 } ∷ [] → AddsLinks (link v w ∷ []) old new
edge_added old new v w n m at is more = record {
  sized = ap length is ∙ length-set old v m;
  real = λ l s. elim (cases_eq l.from v) [
    | inl e ↦
        let now : slice_get (edges_of old v ++ edge ∷ []) s.0 ≡ Some l.edge = subst (λ (es : List Edge). slice_get es s.0 ≡ Some l.edge)
        (ap (edges_of new) e ∙ here) s.1 in
        elim (get_snoc (edges_of old v) edge s.0 l.edge now) [
          | inl was ↦ inl (s.0, subst (λ (u : ℕ). slice_get (edges_of old u) s.0 ≡ Some l.edge) (sym e) was)
          | inr last ↦
              let same : link v w ≡ l = λ i. record { from = sym e i; edge = last.1 i } in
              inr (subst (λ (y : Link). Contains (link v w ∷ []) y) same (one_contains (link v w)))
        ]
    | inr ne ↦ inl (s.0, subst (λ (es : List Edge). slice_get es s.0 ≡ Some l.edge) (other l.from ne) s.1)
  ];
  kept = λ l s. elim (cases_eq l.from v) [
    | inl e ↦
        let was : slice_get (edges_of old v) s.0 ≡ Some l.edge = subst (λ (u : ℕ). slice_get (edges_of old u) s.0 ≡ Some l.edge) e s.1 in (
          s.0,
          subst (λ (es : List Edge). slice_get es s.0 ≡ Some l.edge) (sym (ap (edges_of new) e ∙ here))
              (get_more (edges_of old v) (edge ∷ []) s.0 l.edge was),
        )
    | inr ne ↦ (s.0, subst (λ (es : List Edge). slice_get es s.0 ≡ Some l.edge) (sym (other l.from ne)) s.1)
  ];
  whole = λ l c.
      let same : link v w ≡ l = contains_one (link v w) l c in
      let last : ℕ = length (edges_of old v) in
      let there : Stands new (link v w) = (
        last,
        subst (λ (es : List Edge). slice_get es last ≡ Some edge) (sym here)
            (get_last (edges_of old v) edge),
      ) in
      subst (λ (y : Link). Stands new y) same there;
}
  where
    edge : Edge
    edge = record { target = w; field = 0 }

    here : edges_of new v ≡ edges_of old v ++ edge ∷ []
    here =
        edges_at new v (Some m) (ap (λ (g : List Node). slice_get g v) is ∙ set_same old v n m at)
        ∙ more
        ∙ ap (λ (es : List Edge). es ++ edge ∷ []) (sym (edges_at old v (Some n) at))

    other : (u : ℕ) → (u ≡ v → ⊥) → edges_of new u ≡ edges_of old u
    other u ne = edges_at new u (slice_get old u) (ap (λ (g : List Node). slice_get g u) is ∙ set_other old v u m ne)

pub bare_none : AreBare 0 []
bare_none = record { sized = refl; none = λ l s. none_some l.edge s.1 }

pub bare_more : (count : ℕ) (nodes new : List Node) (n : Node) → new ≡ nodes ++ n ∷ [] → n.edges.items ≡ [] → AreBare count nodes
    → AreBare (count + 1) new
bare_more count nodes new n is empty h = record {
  sized = let many : length nodes ≡ count = h.sized in omega (arith, ap length is, length-append nodes (n ∷ []), many);
  none = λ l s. step l s (slice_get new l.from) refl;
}
  where
    step : (l : Link) → Stands new l → (o : Option Node) → slice_get new l.from ≡ o → ⊥
    step l s None at = none_some l.edge (subst (λ (es : List Edge). slice_get es s.0 ≡ Some l.edge) (edges_at new l.from None at) s.1)
    step l s (Some m) at =
        let own : slice_get m.edges.items s.0 ≡ Some l.edge = subst (λ (es : List Edge). slice_get es s.0 ≡ Some l.edge)
        (edges_at new l.from (Some m) at) s.1 in
        elim (get_snoc nodes n l.from m (ap (λ (g : List Node). slice_get g l.from) (sym is) ∙ at)) [
          | inl was ↦ h.none l (
            s.0,
            subst (λ (es : List Edge). slice_get es s.0 ≡ Some l.edge)
                (sym (edges_at nodes l.from (Some m) was)) own,
          )
          | inr last ↦
              let none : m.edges.items ≡ [] = ap (λ (x : Node). x.edges.items) (sym last.1) ∙ empty in
              none_some l.edge (subst (λ (es : List Edge). slice_get es s.0 ≡ Some l.edge) none own)
        ]

-- the links of what has no place
pub links_none : {T : Type 0} (place : T → Option ℕ) (us : List T) → flat_map (λ u. links_between None (place u)) us ≡ []
links_none place [] = refl
links_none place (u ∷ us) = links_none place us

pub inside : (places : Places) (count : ℕ) → AreWithin places count → (o : Option Name) (v : ℕ) → place_by places o ≡ Some v → v < count
inside places count h None v is = absurd (none_some v is)
inside places count h (Some a) v is = h a v is
