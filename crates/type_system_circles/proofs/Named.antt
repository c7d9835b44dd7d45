-- Circles of numbers, and the same by names.
use Rattle.std.proofs.Common.{◌≡◌, ℕ, ◌<◌, ◌≤◌, List, [], ◌∷◌, length, map, refl, sym, subst, ap, arith, Some, zero, suc, slice_get, ◌∙◌}
use Rattle.std.specs.List.{All, Contains}
use Rattle.std.specs.Option.{option_map, option_map_or}
use Rattle.std.proofs.lemmas.List.Elements.{All-cons, All-contains, All-contains_itself, All-head, All-map, All-nil, All-weaker}
use Rattle.std.proofs.lemmas.Option.{slice_get-map, slice_get_past}
use Rattle.fragment_graph.proofs.Lists.{contains_at, contains_get, none_some, same_some}
use Rattle.fragment_graph.proofs.Judge.{below_length}
use Rattle.type_system_circles.specs.declared.graph.Edge.{Edge}
use Rattle.type_system_circles.specs.declared.graph.Link.{Link}
use Rattle.type_system_circles.specs.declared.graph.Node.{Node}
use Rattle.type_system_circles.specs.declared.search.Circle.{Circle}
use Rattle.type_system_circles.specs.Graph.{BeginsFirst, FindsCircles, IsCircle, IsGraph, IsSimple, IsWalk, Stands, Told}
use Rattle.type_system_circles.specs.Named.{BeginsFirstNamed, FindsNamedCircles, IsNamedCircle, IsSimpleNamed, IsWay}

-- a link stands at a node of the graph
pub stands_inside : (graph : List Node) (l : Link) → Stands graph l → l.from < length graph
stands_inside graph l s = below_length (length graph) l.from (λ past.
    none_some l.edge (subst (λ (es : List Edge). slice_get es s.0 ≡ Some l.edge) (ap (λ o. option_map_or (λ (n : Node). n.edges.items) o []) (slice_get_past graph l.from past)) s.1))

-- and so does each of a walk
pub walk_stands : (graph : List Node) (v w : ℕ) (ls : List Link) → IsWalk graph v ls w → All (Stands graph) ls
walk_stands graph v w [] h = All-nil (Stands graph)
walk_stands graph v w (l ∷ ls) h = All-cons (Stands graph) l ls h.1 (walk_stands graph l.edge.target w ls h.2)

module _ {F N : Type 0} (of : F → N) (Leads : F → N → Type 0) where
  -- The nodes have different names. A link stands for a field, and each field for which there is one is a link.
  pub record IsNamed (graph : List Node) (name : ℕ → N) (field : Link → F) : Type 0 where
    pub inside : IsGraph graph
    pub one : (v w : ℕ) → v < length graph → w < length graph → name v ≡ name w → v ≡ w
    pub real : (l : Link) → Stands graph l → (of (field l) ≡ name l.from) × Leads (field l) (name l.edge.target)
    pub whole : (f : F) (n : N) → Leads f n → (l : Link) × Stands graph l × (field l ≡ f) × (name l.edge.target ≡ n)

  module _ (graph : List Node) (name : ℕ → N) (field : Link → F) (named : IsNamed graph name field) where
    way : (v w : ℕ) (ls : List Link) → IsWalk graph v ls w → IsWay of Leads (name v) (map field ls) (name w)
    way v w [] h = ap name h
    way v w (l ∷ ls) h =
        let r = named.real l h.1 in
        (r.0 ∙ ap name h.0, (name l.edge.target, r.1, way l.edge.target w ls h.2))

    named_circle : (ls : List Link) → IsCircle graph ls → IsNamedCircle of Leads (map field ls)
    named_circle ls c = record {
      node = name c.node;
      way = way c.node c.node ls c.walk;
      some = filled ls c.some;
    }
      where
        filled : (xs : List Link) → 0 < length xs → 0 < length (map field xs)
        filled [] h = absurd (omega (arith, h))
        filled (x ∷ xs) h = omega arith

    walk : (fs : List F) (n m : N) (v w : ℕ) → v < length graph → w < length graph → name v ≡ n → name w ≡ m → IsWay of Leads n fs m
        → (ls : List Link) × IsWalk graph v ls w × (map field ls ≡ fs)
    walk [] n m v w inside_v inside_w is_v is_w h = ([], named.one v w inside_v inside_w (is_v ∙ h ∙ sym is_w), refl)
    walk (f ∷ fs) n m v w inside_v inside_w is_v is_w h =
        let q : (k : N) × Leads f k × IsWay of Leads k fs m = h.1 in
        let p = named.whole f q.0 q.1 in
        let l : Link = p.0 in
        let own : name l.from ≡ n = sym (named.real l p.1).0 ∙ ap of p.2 ∙ h.0 in
        let from : l.from ≡ v = named.one l.from v (stands_inside graph l p.1) inside_v (own ∙ sym is_v) in
        let rest = walk fs q.0 m l.edge.target w (named.inside l.from p.1.0 l.edge p.1.1) inside_w p.3 is_w q.2 in
        (l ∷ rest.0, (from, p.1, rest.1), ap (λ (x : F). x ∷ map field rest.0) p.2 ∙ ap (λ (xs : List F). f ∷ xs) rest.2)

    circle : (fs : List F) → IsNamedCircle of Leads fs → (ls : List Link) × IsCircle graph ls × (map field ls ≡ fs)
    circle [] c = absurd (omega (arith, c.some))
    circle (f ∷ fs) c =
        let q : (k : N) × Leads f k × IsWay of Leads k fs c.node = c.way.1 in
        let p = named.whole f q.0 q.1 in
        let l : Link = p.0 in
        let own : name l.from ≡ c.node = sym (named.real l p.1).0 ∙ ap of p.2 ∙ c.way.0 in
        let here = stands_inside graph l p.1 in
        let r = walk (f ∷ fs) c.node c.node l.from l.from here here own own c.way in
        (r.0, record { node = l.from; walk = r.1; some = filled r.0 r.2 }, r.2)
      where
        filled : (xs : List Link) → map field xs ≡ f ∷ fs → 0 < length xs
        filled [] h = cc
        filled (x ∷ xs) h = omega arith

    has : (xs : List Link) (l : Link) → Contains xs l → Contains (map field xs) (field l)
    has xs l h =
        let g = contains_get xs l h in
        contains_at (map field xs) g.0 (field l) (slice_get-map field xs g.0 ∙ ap (λ o. option_map field o) g.1)

    -- the link of a field that stands at a place
    field_link : (ls : List Link) (i : ℕ) (f : F) → slice_get (map field ls) i ≡ Some f → (l : Link) × (slice_get ls i ≡ Some l) × (field l ≡ f)
    field_link [] i f h = absurd (none_some f h)
    field_link (l ∷ ls) zero f h = (l, refl, same_some (field l) f h)
    field_link (l ∷ ls) (suc i) f h = field_link ls i f h

    once : (ls : List Link) → IsCircle graph ls → IsSimple ls → IsSimpleNamed of Leads (map field ls)
    once ls c h i j f g at_i at_j same =
        let p = field_link ls i f at_i in
        let q = field_link ls j g at_j in
        let all : All (Stands graph) ls = walk_stands graph c.node c.node ls c.walk in
        let one : Stands graph p.0 = All-contains (Stands graph) ls p.0 all (contains_at ls i p.0 p.1) in
        let two : Stands graph q.0 = All-contains (Stands graph) ls q.0 all (contains_at ls j q.0 q.1) in
        let node : name p.0.from ≡ name q.0.from = sym (named.real p.0 one).0 ∙ ap of p.2 ∙ same ∙ sym (ap of q.2) ∙ (named.real q.0 two).0 in
        h i j p.0 q.0 p.1 q.1 (named.one p.0.from q.0.from (stands_inside graph p.0 one) (stands_inside graph q.0 two) node)

    module _ (NotAfter : N → N → Type 0) (order : (v w : ℕ) → v < length graph → w < length graph → v ≤ w → NotAfter (name v) (name w)) where
      begins : (ls : List Link) → IsCircle graph ls → BeginsFirst ls → BeginsFirstNamed of Leads NotAfter (map field ls)
      begins [] c h = tt
      begins (l ∷ ls) c h =
          let all : All (Stands graph) (l ∷ ls) = walk_stands graph c.node c.node (l ∷ ls) c.walk in
          let near : Stands graph l = All-head (Stands graph) l ls all in
          let after : (x : Link) → Contains (l ∷ ls) x → NotAfter (of (field l)) (of (field x)) = λ (x : Link) (i : Contains (l ∷ ls) x).
          let there : Stands graph x = All-contains (Stands graph) (l ∷ ls) x all i in
          let at : NotAfter (name l.from) (name x.from) =
          order l.from x.from (stands_inside graph l near) (stands_inside graph x there) (All-contains (λ (y : Link). l.from ≤ y.from) (l ∷ ls) x h i) in
          subst (λ (n : N). NotAfter (of (field l)) n) (sym (named.real x there).0) (subst (λ (n : N). NotAfter n (name x.from)) (sym (named.real l near).0) at) in
          All-map (λ (g : F). NotAfter (of (field l)) (of g)) field (l ∷ ls)
          (All-weaker (Contains (l ∷ ls)) (λ (x : Link). NotAfter (of (field l)) (of (field x))) after (l ∷ ls) (All-contains_itself (l ∷ ls)))

      no_more : (cs : List Circle) → map (λ c. map field c.links.items) cs ≡ [] → cs ≡ []
      no_more [] h = refl
      no_more (c ∷ cs) h = cc

      -- what was told of a graph, by names
      pub found : (circles : List Circle) → FindsCircles graph circles → FindsNamedCircles of Leads NotAfter (map (λ c. map field c.links.items) circles)
      found circles h = record {
        real = All-map (IsNamedCircle of Leads) (λ (c : Circle). map field c.links.items) circles
            (All-weaker (λ (c : Circle). IsCircle graph c.links.items) (λ (c : Circle). IsNamedCircle of Leads (map field c.links.items)) (λ c is. named_circle c.links.items is) circles h.real);
        simple = All-map (IsSimpleNamed of Leads) (λ (c : Circle). map field c.links.items) circles
            (All-weaker (Contains circles) (λ (c : Circle). IsSimpleNamed of Leads (map field c.links.items))
            (λ c i. once c.links.items (All-contains (λ (x : Circle). IsCircle graph x.links.items) circles c h.real i) (All-contains (λ (x : Circle). IsSimple x.links.items) circles c h.simple i))
            circles (All-contains_itself circles));
        first = All-map (BeginsFirstNamed of Leads NotAfter) (λ (c : Circle). map field c.links.items) circles
            (All-weaker (Contains circles) (λ (c : Circle). BeginsFirstNamed of Leads NotAfter (map field c.links.items))
            (λ c i. begins c.links.items (All-contains (λ (x : Circle). IsCircle graph x.links.items) circles c h.real i) (All-contains (λ (x : Circle). BeginsFirst x.links.items) circles c h.first i))
            circles (All-contains_itself circles));
        enough = λ fs is.
            let c = circle fs is in
            let e = h.enough c.0 c.1 in
            let told : Told circles e.0 = e.2 in (
              field e.0,
              subst (λ (xs : List F). Contains xs (field e.0)) c.2 (has c.0 e.0 e.1),
              (map field told.0.links.items, has_circle circles told.0 told.1, has told.0.links.items e.0 told.2),
            );
        none = (
          λ nil fs is. let c = circle fs is in h.none.0 (no_more circles nil) c.0 c.1,
          λ no. ap (λ (cs : List Circle). map (λ c. map field c.links.items) cs) (h.none.1 (λ ls is. no (map field ls) (named_circle ls is))),
        );
      }
        where
          has_circle : (cs : List Circle) (c : Circle) → Contains cs c → Contains (map (λ x. map field x.links.items) cs) (map field c.links.items)
          has_circle cs c i =
              let g = contains_get cs c i in
              contains_at (map (λ x. map field x.links.items) cs) g.0 (map field c.links.items)
              (slice_get-map (λ x. map field x.links.items) cs g.0 ∙ ap (λ o. option_map (λ (x : Circle). map field x.links.items) o) g.1)
