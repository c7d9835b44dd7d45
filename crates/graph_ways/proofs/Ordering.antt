-- The order of the nodes that were met, once a new one is met.
use Rattle.std.proofs.Common.{◌≡◌, ℕ, ◌+◌, ◌<◌, ◌≤◌, List, ◌∷◌, ◌++◌, length, ap, arith, inl, inr, ◌⊎◌, Option, Some, slice_get, slice_set, ◌∙◌}
use Rattle.std.proofs.lemmas.Bool.{cases_eq}
use Rattle.fragment_graph.proofs.Lists.{set_other, set_same}
use Rattle.type_system_circles.specs.declared.graph.Edge.{Edge}
use Rattle.type_system_circles.specs.declared.graph.Link.{Link}
use Rattle.type_system_circles.specs.declared.graph.Node.{Node}
use Rattle.type_system_circles.specs.Graph.{Stands, edges_of}
use Rattle.graph_ways.specs.Leaving.{FoundBetween, IsPlace, LeadsBack, Ordered}
use Rattle.graph_ways.specs.Order.{number_at}
use Rattle.graph_ways.proofs.Places.{Moved, insert_after, insert_cases, number_other, number_same, set_cases}

-- The link leads from the node at the place to the other.
pub record IsLinkFrom (graph : List Node) (ns : List ℕ) (n t : ℕ) (o : Option Link) : Type 0 where
  pub link : Link
  pub is : o ≡ Some link
  pub stands : Stands graph link
  pub leads : link.edge.target ≡ t
  pub from : IsPlace ns n link.from

-- The node is new: where others are in work, a link from the last of them leads to it.
pub record IsNext (graph : List Node) (ns : List ℕ) (n t : ℕ) (o : Option Link) : Type 0 where
  pub inside : t < length graph
  pub new : (i : ℕ) → IsPlace ns i t → ⊥
  pub link : (i v : ℕ) → IsPlace ns i v → n ≤ i → IsLinkFrom graph ns n t o

module _ {graph : List Node} (left work : List ℕ) {firsts : List ℕ} {found : List (Option Link)} {looked : List ℕ}
    (t f0 : ℕ) (o o0 : Option Link) (h : Ordered graph (left ++ work) firsts found looked)
    (early : (i v : ℕ) → IsPlace (left ++ work) i v → number_at firsts v ≤ length left)
    (next : IsNext graph (left ++ work) (length left) t o)
    (was_first : slice_get firsts t ≡ Some f0) (was_found : slice_get found t ≡ Some o0) where
  abbrev n : ℕ
  n = length left

  abbrev old : List ℕ
  old = left ++ work

  abbrev new : List ℕ
  new = left ++ t ∷ work

  abbrev fs : List ℕ
  fs = slice_set firsts t n

  abbrev links : List (Option Link)
  links = slice_set found t o

  first_here : number_at fs t ≡ n
  first_here = number_same firsts t f0 n was_first

  first_there : (i v : ℕ) → IsPlace old i v → number_at fs v ≡ number_at firsts v
  first_there i v at = number_other firsts t v n (λ e. next.new i (rw e at at))

  found_there : (i v : ℕ) → IsPlace old i v → slice_get links v ≡ slice_get found v
  found_there i v at = set_other found t v o (λ e. next.new i (rw e at at))

  simple : (i j v : ℕ) → IsPlace new i v → IsPlace new j v → i ≡ j
  simple i j v a b = elim (insert_cases left work t i v a) [
    | inl p ↦ elim (insert_cases left work t j v b) [
      | inl q ↦ omega (arith, p.0, q.0)
      | inr q ↦ absurd (next.new q.place (rw p.1 q.is))
    ]
    | inr p ↦ elim (insert_cases left work t j v b) [
      | inl q ↦ absurd (next.new p.place (rw q.1 p.is))
      | inr q ↦ let same : p.place ≡ q.place = h.simple p.place q.place v p.is q.is in omega arith
    ]
  ]

  inside : (i v : ℕ) → IsPlace new i v → v < length graph
  inside i v a = elim (insert_cases left work t i v a) [
    | inl p ↦ rw (← p.1) next.inside
    | inr p ↦ h.inside p.place v p.is
  ]

  own : (i v : ℕ) → IsPlace new i v → number_at fs v ≤ i
  own i v a = elim (insert_cases left work t i v a) [
    | inl p ↦ let e : number_at fs v ≡ n = rw (← p.1) first_here in omega (arith, p.0)
    | inr p ↦ let e = first_there p.place v p.is in let b = h.own p.place v p.is in omega arith
  ]

  -- an old place from the first of an old node on
  from_first : (i j j0 v : ℕ) → IsPlace old i v → number_at fs v ≤ j → Moved n j0 j → number_at firsts v ≤ j0
  from_first i j j0 v at from moved =
      let e = first_there i v at in
      let b = early i v at in
      omega arith

  nested : (i j v w : ℕ) → IsPlace new i v → IsPlace new j w → number_at fs v ≤ j → j ≤ i → number_at fs v ≤ number_at fs w
  nested i j v w a b from to = elim (insert_cases left work t i v a) [
    | inl p ↦
        let e : number_at fs v ≡ n = rw (← p.1) first_here in
        elim (insert_cases left work t j w b) [
          | inl q ↦ let f : number_at fs w ≡ n = rw (← q.1) first_here in omega arith
          | inr q ↦ absurd (omega (arith, p.0))
        ]
    | inr p ↦
        let e = first_there p.place v p.is in
        elim (insert_cases left work t j w b) [
          | inl q ↦ let f : number_at fs w ≡ n = rw (← q.1) first_here in let b = early p.place v p.is in omega arith
          | inr q ↦
              let f = first_there q.place w q.is in
              let r = h.nested p.place q.place v w p.is q.is (from_first p.place j q.place v p.is from q.moved) (omega arith) in
              omega arith
        ]
  ]

  linked : (i j v w : ℕ) → IsPlace new i v → IsPlace new j w → number_at fs v ≤ j → j ≤ i
      → (v ≡ w) ⊎ FoundBetween graph new links w j i
  linked i j v w a b from to = elim (insert_cases left work t i v a) [
    | inl p ↦
        let e : number_at fs v ≡ n = rw (← p.1) first_here in
        elim (insert_cases left work t j w b) [
          | inl q ↦ inl cc
          | inr q ↦ absurd (omega (arith, p.0))
        ]
    | inr p ↦ elim (insert_cases left work t j w b) [
      | inl q ↦
          let l = next.link p.place v p.is (omega (arith, q.0)) in
          let z = insert_after left work t n l.link.from l.from in
          inr (record {
            link = l.link;
            is = rw (← q.1) (set_same found t o0 o was_found ∙ ap Some l.is);
            stands = l.stands;
            leads = l.leads ∙ q.1;
            place = z.place;
            from = z.is;
            above = omega (arith, q.0);
            below = omega (arith, q.0);
          })
      | inr q ↦ elim (h.linked p.place q.place v w p.is q.is (from_first p.place j q.place v p.is from q.moved) (omega arith)) [
        | inl e ↦ inl e
        | inr k ↦
            let z = insert_after left work t k.place k.link.from k.from in
            inr (record {
              link = k.link;
              is = found_there q.place w q.is ∙ k.is;
              stands = k.stands;
              leads = k.leads;
              place = z.place;
              from = z.is;
              above = omega arith;
              below = omega arith;
            })
      ]
    ]
  ]

  back : (v m k : ℕ) (e : Edge) → slice_get looked v ≡ Some m → k < m → slice_get (edges_of graph v) k ≡ Some e
      → (i : ℕ) × IsPlace new i v × LeadsBack new fs i e.target
  back v m k e is lt edge =
      let b = h.back v m k e is lt edge in
      let r = b.2 in
      let from = insert_after left work t b.0 v b.1 in
      let to = insert_after left work t r.place e.target r.is in
      let f = first_there r.place e.target r.is in
      let m1 = from.moved in
      let m2 = to.moved in (
        from.place,
        from.is,
        record {
          place = to.place;
          is = to.is;
          back = elim r.back [ inl before ↦ inl (omega arith) | inr q ↦ inr (omega (arith, q.0, q.1), omega (arith, q.0, q.1)) ];
        },
      )

  pub ordered_met : Ordered graph (left ++ t ∷ work) (slice_set firsts t (length left)) (slice_set found t o) looked
  ordered_met = record { simple = simple; inside = inside; own = own; nested = nested; linked = linked; back = back }

-- one more edge of a node was looked at
pub ordered_looked : {graph : List Node} {ns firsts : List ℕ} {found : List (Option Link)} {looked : List ℕ} (i u n : ℕ) (e : Edge)
    → slice_get looked u ≡ Some n → slice_get (edges_of graph u) n ≡ Some e → IsPlace ns i u → LeadsBack ns firsts i e.target
    → Ordered graph ns firsts found looked → Ordered graph ns firsts found (slice_set looked u (n + 1))
ordered_looked {looked = looked} i u n e next edge at leads h = record {
  simple = h.simple;
  inside = h.inside;
  own = h.own;
  nested = h.nested;
  linked = h.linked;
  back = λ v m k x is lt ed. elim (set_cases looked u v n (n + 1) m next is) [
    | inl new ↦ elim (cases_eq k n) [
      | inl last ↦ let same : e ≡ x = cc in (i, rw new.0 at, rw (← same) leads)
      | inr before ↦ h.back v n k x (rw new.0 next) (omega (arith, new.1)) ed
    ]
    | inr was ↦ h.back v m k x was lt ed
  ];
}
