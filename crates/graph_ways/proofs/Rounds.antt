-- What the search backwards does, a step at a time, keeps it sound.
use Rattle.std.proofs.Common.{◌≡◌, ℕ, ◌+◌, ◌<◌, ◌≤◌, List, [], ◌∷◌, ◌++◌, ◌-◌, length, length-set, zero, suc, cond, eqb, refl, sym, ap, arith, inl, inr, ◌⊎◌, Option, None, Some, replicate, slice_get, slice_set, ◌∙◌}
use Rattle.std.proofs.lemmas.Bool.{cases_eq, eq-eqb, ne_eqb}
use Rattle.std.proofs.lemmas.List.{length-replicate}
use Rattle.std.proofs.lemmas.List.Elements.{Contains-append_left, Contains-push, Contains-push_cases}
use Rattle.std.proofs.lemmas.Option.{slice_get_within}
use Rattle.name_tables.proofs.Lists.{get_same}
use Rattle.fragment_graph.proofs.Lists.{none_some, same_item, same_some, set_keep, set_other, set_same, set_was}
use Rattle.type_system_circles.specs.declared.graph.Link.{Link}
use Rattle.type_system_circles.specs.declared.graph.Node.{Node}
use Rattle.type_system_circles.specs.Graph.{Stands}
use Rattle.graph_ways.specs.declared.order.Order.{Order}
use Rattle.graph_ways.specs.Backwards.{IsDone, IsOf, LeadsOn, Settled, Sound, unmet}
use Rattle.graph_ways.specs.Order.{IsFrom, IsOrder, first, rank}
use Rattle.graph_ways.specs.Ways.{links_to}

-- an element of a list in which one was replaced
pub set_cases : {X : Type 0} (xs : List X) (i j : ℕ) (x y z : X) → slice_get xs i ≡ Some x → slice_get (slice_set xs i y) j ≡ Some z
    → ((j ≡ i) × (y ≡ z)) ⊎ (slice_get xs j ≡ Some z)
set_cases xs i j x y z was is = elim (cases_eq j i) [
  | inl e ↦ let here = set_same xs i x y was in inl (e, cc)
  | inr ne ↦ let other = set_other xs i j y ne in inr cc
]

-- what an order has for a node that is not ranked above another
module _ (graph : List Node) (o : Order) (order : IsOrder graph o) where
  -- the node of a link to one that was found from the root was, too, unless it was left after the root
  pub from_back : (root : ℕ) (l : Link) → Stands graph l → root < length graph → l.edge.target < length graph → IsFrom o root l.edge.target
      → rank o l.from < rank o root → IsFrom o root l.from
  from_back root l stands room inside from low = elim (order.back l stands) [
    | inl falls ↦ let f : first o root ≤ rank o l.edge.target = from.0 in (omega arith, omega arith)
    | inr around ↦
        let n = order.nested root l.edge.target room inside from in
        let g : first o l.edge.target ≤ rank o l.from = around.0 in
        (omega arith, omega arith)
  ]

  pub same_rank : (v w : ℕ) → v < length graph → w < length graph → rank o v ≡ rank o w → v ≡ w
  same_rank v w room_v room_w same =
      same_item v w (slice_get o.nodes.items (rank o v)) (order.placed v room_v) (rw same (order.placed w room_w))

module _ (o : Order) where
  pub settled_kept : (roots more : List (Option ℕ)) (onward new : List (Option Link)) (l : Link)
      → ((v r : ℕ) → IsOf roots r v → IsOf more r v) → ((v : ℕ) → slice_get new v ≡ Some None → slice_get onward v ≡ Some None)
      → Settled o roots onward l → Settled o more new l
  settled_kept roots more onward new l keep none h = record {
    a = h.a;
    b = h.b;
    from = keep l.from h.a h.from;
    to = keep l.edge.target h.b h.to;
    falls = h.falls;
    closes = λ e n. h.closes e (none h.b n);
  }

pub unmet-set : (roots : List (Option ℕ)) (x q : ℕ) → slice_get roots x ≡ Some None → unmet (slice_set roots x (Some q)) + 1 ≡ unmet roots
unmet-set [] x q h = absurd (none_some None h)
unmet-set (None ∷ roots) zero q h = refl
unmet-set (None ∷ roots) (suc x) q h = let r = unmet-set roots x q h in omega arith
unmet-set (Some r ∷ roots) zero q h = absurd (none_some r (sym (same_some (Some r) None h)))
unmet-set (Some r ∷ roots) (suc x) q h = unmet-set roots x q h

unmet-most : (roots : List (Option ℕ)) → unmet roots ≤ length roots
unmet-most [] = omega arith
unmet-most (None ∷ roots) = let r = unmet-most roots in omega arith
unmet-most (Some r ∷ roots) = let most = unmet-most roots in omega arith

-- the depths with that of one node set
put : ℕ → ℕ → (ℕ → ℕ) → ℕ → ℕ
put x d depth v = cond (eqb v x) d (depth v)

put_same : (x d : ℕ) (depth : ℕ → ℕ) → put x d depth x ≡ d
unfolding put
put_same x d depth = ap (λ b. cond b d (depth x)) (eq-eqb x x refl)

put_other : (x d : ℕ) (depth : ℕ → ℕ) (v : ℕ) → (v ≡ x → ⊥) → put x d depth v ≡ depth v
unfolding put
put_other x d depth v ne = ap (λ b. cond b d (depth v)) (ne_eqb v x ne)

-- a node that was not met is now
module _ (roots : List (Option ℕ)) (x q d : ℕ) (depth : ℕ → ℕ) (new : slice_get roots x ≡ Some None) where
  put_met : (v r : ℕ) → IsOf roots r v → put x d depth v ≡ depth v
  put_met v r is = put_other x d depth v (λ e. none_some r (same_some None (Some r) (sym new ∙ rw (← e) is)))

  put_shallow : (n : ℕ) → d + unmet roots ≤ n → ((v r : ℕ) → IsOf roots r v → depth v + unmet roots < n) → (v r : ℕ)
      → IsOf (slice_set roots x (Some q)) r v → put x d depth v + unmet (slice_set roots x (Some q)) < n
  put_shallow n room shallow v r is =
      let fewer : unmet (slice_set roots x (Some q)) + 1 ≡ unmet roots = unmet-set roots x q new in
      elim (set_cases roots x v None (Some q) (Some r) new is) [
        | inl own ↦
            let here : put x d depth x ≡ d = put_same x d depth in
            let fits : put x d depth x + unmet (slice_set roots x (Some q)) < n = omega arith in
            rw own.0 fits
        | inr was ↦
            let same : put x d depth v ≡ depth v = put_met v r was in
            let old : depth v + unmet roots < n = shallow v r was in
            omega arith
      ]

  put_nearer : (graph : List Node) (v : ℕ) (l : Link) → LeadsOn graph roots v l → IsOf roots v v ⊎ (depth l.edge.target < depth v)
      → IsOf (slice_set roots x (Some q)) v v ⊎ (put x d depth l.edge.target < put x d depth v)
  put_nearer graph v l on near = elim near [
    | inl own ↦ inl (set_keep roots x v None (Some q) (Some v) new (λ e. none_some v e) own)
    | inr less ↦
        let one : put x d depth v ≡ depth v = put_met v on.root on.here in
        let two : put x d depth l.edge.target ≡ depth l.edge.target = put_met l.edge.target on.root on.there in
        inr (omega arith)
  ]

leads_kept : (graph : List Node) (roots more : List (Option ℕ)) (v : ℕ) (l : Link) → ((w r : ℕ) → IsOf roots r w → IsOf more r w)
    → LeadsOn graph roots v l → LeadsOn graph more v l
leads_kept graph roots more v l keep h = record {
  stands = h.stands;
  from = h.from;
  root = h.root;
  here = keep v h.root h.here;
  there = keep l.edge.target h.root h.there;
}

module _ (graph : List Node) (o : Order) (low : ℕ) (roots : List (Option ℕ)) (onward : List (Option Link)) (entered waiting : List ℕ)
    (h : Sound graph o low roots onward entered waiting) where
  root_kept : (x q : ℕ) → slice_get roots x ≡ Some None → (v r : ℕ) → IsOf roots r v → IsOf (slice_set roots x (Some q)) r v
  root_kept x q new v r is = set_keep roots x v None (Some q) (Some r) new (λ e. none_some r e) is

  onward_was : (x : ℕ) (m : Option Link) (l : Link) → slice_get onward x ≡ Some m → (v : ℕ)
      → slice_get (slice_set onward x (Some l)) v ≡ Some None → slice_get onward v ≡ Some None
  onward_was x m l at v is = set_was onward x v m (Some l) None at (λ e. none_some l (sym e)) is

  -- a node is met that a link leads from
  pub met : (root : ℕ) (l : Link) (m : Option Link) → slice_get roots l.from ≡ Some None → slice_get onward l.from ≡ Some m → Stands graph l
      → IsOf roots root l.edge.target → IsFrom o root l.from
      → Sound graph o low (slice_set roots l.from (Some root)) (slice_set onward l.from (Some l)) entered (waiting ++ l.from ∷ [])
  met root l m new at stands to from =
      let x : ℕ = l.from in
      let more : List (Option ℕ) = slice_set roots x (Some root) in
      let on : List (Option Link) = slice_set onward x (Some l) in
      let keep = root_kept x root new in
      let none = onward_was x m l at in
      let here : IsOf more root x = set_same roots x None (Some root) new in
      let sized : length roots ≡ length graph = h.roots_sized in
      let most : unmet roots ≤ length roots = unmet-most roots in
      let d : ℕ = length graph - unmet roots in
      record {
        roots_sized = length-set roots x (Some root) ∙ h.roots_sized;
        onward_sized = length-set onward x (Some l) ∙ h.onward_sized;
        entered_sized = h.entered_sized;
        taken = λ v room is. h.taken v room (set_was roots x v None (Some root) None new (λ e. none_some root (sym e)) is);
        rooted = λ v r is. elim (set_cases roots x v None (Some root) (Some r) new is) [
          | inl own ↦
              let same : root ≡ r = same_some root r own.1 in
              let t = h.rooted l.edge.target root to in
              rw (own.0, ← same) (t.0, t.1, from)
          | inr was ↦ h.rooted v r was
        ];
        bounded = h.bounded;
        ahead = λ v n k y is lt there. settled_kept o roots more onward on y keep none (h.ahead v n k y is lt there);
        behind = λ v r is. elim (set_cases roots x v None (Some root) (Some r) new is) [
          | inl own ↦ inl (rw own.0 (Contains-push waiting x))
          | inr was ↦ elim (h.behind v r was) [ inl wait ↦ inl (Contains-append_left waiting (x ∷ []) v wait) | inr done ↦ inr done ]
        ];
        real = λ v y is. elim (set_cases onward x v m (Some l) (Some y) at is) [
          | inl own ↦
              let same : l ≡ y = same_some l y own.1 in
              rw (own.0, ← same) (record { stands = stands; from = refl; root = root; here = here; there = keep l.edge.target root to })
          | inr was ↦ leads_kept graph roots more v y keep (h.real v y was)
        ];
        some = λ v r is nil. elim (set_cases roots x v None (Some root) (Some r) new is) [
          | inl own ↦
              let now = set_same onward x m (Some l) at in
              absurd (none_some l (same_some None (Some l) (rw own.0 at (sym nil) ∙ now)))
          | inr was ↦ h.some v r was (none v nil)
        ];
        depth = put x d h.depth;
        shallow = put_shallow roots x root d h.depth new (length graph) (omega arith) h.shallow;
        nearer = λ v y is. elim (set_cases onward x v m (Some l) (Some y) at is) [
          | inl own ↦
              let same : l ≡ y = same_some l y own.1 in
              let one : put x d h.depth x ≡ d = put_same x d h.depth in
              let two : put x d h.depth l.edge.target ≡ h.depth l.edge.target = put_met roots x root d h.depth new l.edge.target root to in
              let old : h.depth l.edge.target + unmet roots < length graph = h.shallow l.edge.target root to in
              let less : put x d h.depth l.edge.target < put x d h.depth x = omega arith in
              rw (own.0, ← same) (inr less)
          | inr was ↦ put_nearer roots x root d h.depth new graph v y (h.real v y was) (h.nearer v y was)
        ];
      }

  pub met_settled : (root : ℕ) (l : Link) (m : Option Link) → slice_get roots l.from ≡ Some None → slice_get onward l.from ≡ Some m
      → IsOf roots root l.edge.target → Settled o (slice_set roots l.from (Some root)) (slice_set onward l.from (Some l)) l
  met_settled root l m new at to = record {
    a = root;
    b = root;
    from = set_same roots l.from None (Some root) new;
    to = root_kept l.from root new l.edge.target root to;
    falls = omega arith;
    closes = λ e nil.
        let now = set_same onward l.from m (Some l) at in
        none_some l (same_some None (Some l) (sym nil ∙ ap (slice_get (slice_set onward l.from (Some l))) (sym e) ∙ now));
  }

  -- the root has a link onward
  pub noted : (root : ℕ) (l : Link) (m : Option Link) → slice_get onward root ≡ Some m → Stands graph l → l.from ≡ root
      → IsOf roots root root → IsOf roots root l.edge.target → Sound graph o low roots (slice_set onward root (Some l)) entered waiting
  noted root l m at stands from own to =
      let on : List (Option Link) = slice_set onward root (Some l) in
      let none = onward_was root m l at in
      record {
        roots_sized = h.roots_sized;
        onward_sized = length-set onward root (Some l) ∙ h.onward_sized;
        entered_sized = h.entered_sized;
        taken = h.taken;
        rooted = h.rooted;
        bounded = h.bounded;
        ahead = λ v n k y is lt there. settled_kept o roots roots onward on y (λ w r g. g) none (h.ahead v n k y is lt there);
        behind = h.behind;
        real = λ v y is. elim (set_cases onward root v m (Some l) (Some y) at is) [
          | inl new ↦
              let same : l ≡ y = same_some l y new.1 in
              rw (new.0, ← same) (record { stands = stands; from = from; root = root; here = own; there = to })
          | inr was ↦ h.real v y was
        ];
        some = λ v r is nil. h.some v r is (none v nil);
        depth = h.depth;
        shallow = h.shallow;
        nearer = λ v y is. elim (set_cases onward root v m (Some l) (Some y) at is) [
          | inl new ↦ inl (rw new.0 own)
          | inr was ↦ h.nearer v y was
        ];
      }

  pub noted_settled : (root : ℕ) (l : Link) (m : Option Link) → slice_get onward root ≡ Some m → l.from ≡ root
      → IsOf roots root root → IsOf roots root l.edge.target → Settled o roots (slice_set onward root (Some l)) l
  noted_settled root l m at from own to = record {
    a = root;
    b = root;
    from = rw from own;
    to = to;
    falls = omega arith;
    closes = λ e nil.
        let now = set_same onward root m (Some l) at in
        none_some l (same_some None (Some l) (sym nil ∙ now));
  }

  -- a link from a node that was met before
  pub old_settled : (root a : ℕ) (l : Link) → (l.from ≡ root → ⊥) → rank o root ≤ low → IsOf roots a l.from
      → IsOf roots root l.edge.target → Settled o roots onward l
  old_settled root a l other top from to = record {
    a = a;
    b = root;
    from = from;
    to = to;
    falls = let r = h.rooted l.from a from in let t : low ≤ rank o a = r.1 in omega arith;
    closes = λ e nil. other e;
  }

  -- one link more was looked at
  pub entered_one : (u n : ℕ) (l : Link) → slice_get entered u ≡ Some n → slice_get (links_to graph u) n ≡ Some l
      → Settled o roots onward l → Sound graph o low roots onward (slice_set entered u (n + 1)) waiting
  entered_one u n l next link settled = record {
    roots_sized = h.roots_sized;
    onward_sized = h.onward_sized;
    entered_sized = length-set entered u (n + 1) ∙ h.entered_sized;
    taken = h.taken;
    rooted = h.rooted;
    bounded = λ v k is. elim (set_cases entered u v n (n + 1) k next is) [
      | inl new ↦
          let room : n < length (links_to graph u) = slice_get_within (links_to graph u) n l link in
          let within : k ≤ length (links_to graph u) = omega (arith, new.1, room) in
          rw new.0 within
      | inr was ↦ h.bounded v k was
    ];
    ahead = λ v k j y is lt there. elim (set_cases entered u v n (n + 1) k next is) [
      | inl new ↦ elim (cases_eq j n) [
        | inl last ↦
            let same : l ≡ y = same_item l y (slice_get (links_to graph u) n) link (rw (← last, ← new.0) there) in
            rw (← same) settled
        | inr before ↦ h.ahead u n j y next (omega (arith, new.1)) (rw new.0 at there)
      ]
      | inr was ↦ h.ahead v k j y was lt there
    ];
    behind = λ v r is. elim (h.behind v r is) [
      | inl wait ↦ inl wait
      | inr done ↦ inr (λ k at. elim (set_cases entered u v n (n + 1) k next at) [
        | inl new ↦ let most = done n (rw new.0 next) in omega (arith, new.1)
        | inr was ↦ done k was
      ])
    ];
    real = h.real;
    some = h.some;
    depth = h.depth;
    shallow = h.shallow;
    nearer = h.nearer;
  }

  -- a node that is done waits no more
  pub left : (rest : List ℕ) (u : ℕ) → waiting ≡ rest ++ u ∷ [] → IsDone graph entered u → Sound graph o low roots onward entered rest
  left rest u is done = record {
    roots_sized = h.roots_sized;
    onward_sized = h.onward_sized;
    entered_sized = h.entered_sized;
    taken = h.taken;
    rooted = h.rooted;
    bounded = h.bounded;
    ahead = h.ahead;
    behind = λ v r at. elim (h.behind v r at) [
      | inl wait ↦ elim (Contains-push_cases rest u v (rw is at wait)) [ inl still ↦ inl still | inr e ↦ inr (rw (← e) done) ]
      | inr all ↦ inr all
    ];
    real = h.real;
    some = h.some;
    depth = h.depth;
    shallow = h.shallow;
    nearer = h.nearer;
  }

-- the node of the next rank is taken
module _ (graph : List Node) (o : Order) (order : IsOrder graph o) (k root : ℕ) (at : slice_get o.nodes.items k ≡ Some root)
    (roots : List (Option ℕ)) (onward : List (Option Link)) (entered waiting : List ℕ)
    (h : Sound graph o (k + 1) roots onward entered waiting) where
  below : (v : ℕ) → v < length graph → rank o v < k + 1 → (v ≡ root → ⊥) → rank o v < k
  below v room most other = elim (cases_eq (rank o v) k) [
    | inl e ↦ absurd (other (same_item v root (slice_get o.nodes.items k) (rw e at (order.placed v room)) at))
    | inr ne ↦ omega arith
  ]

  -- it was met before
  pub known : (r : ℕ) → IsOf roots r root → Sound graph o k roots onward entered waiting
  known r is = record {
    roots_sized = h.roots_sized;
    onward_sized = h.onward_sized;
    entered_sized = h.entered_sized;
    taken = λ v room none. below v room (h.taken v room none)
        (λ e. none_some r (same_some None (Some r) (sym none ∙ rw e is)));
    rooted = λ v q of. let t = h.rooted v q of in let much : k + 1 ≤ rank o q = t.1 in (t.0, omega arith, t.2);
    bounded = h.bounded;
    ahead = h.ahead;
    behind = h.behind;
    real = h.real;
    some = h.some;
    depth = h.depth;
    shallow = h.shallow;
    nearer = h.nearer;
  }

  -- the search begins at it
  pub begun : slice_get roots root ≡ Some None → Sound graph o k (slice_set roots root (Some root)) onward entered (waiting ++ root ∷ [])
  begun new =
      let more : List (Option ℕ) = slice_set roots root (Some root) in
      let p = order.ranked k root at in
      let keep : (v r : ℕ) → IsOf roots r v → IsOf more r v =
      λ v r is. set_keep roots root v None (Some root) (Some r) new (λ e. none_some r e) is in
      let here : IsOf more root root = set_same roots root None (Some root) new in
      let sized : length roots ≡ length graph = h.roots_sized in
      let most : unmet roots ≤ length roots = unmet-most roots in
      record {
        roots_sized = length-set roots root (Some root) ∙ h.roots_sized;
        onward_sized = h.onward_sized;
        entered_sized = h.entered_sized;
        taken = λ v room none.
            let was = set_was roots root v None (Some root) None new (λ e. none_some root (sym e)) none in
            below v room (h.taken v room was) (λ e. none_some root (same_some None (Some root) (sym none ∙ rw e here)));
        rooted = λ v r is. elim (set_cases roots root v None (Some root) (Some r) new is) [
          | inl own ↦
              let same : root ≡ r = same_some root r own.1 in
              let much : k ≤ rank o root = omega (arith, p.1) in
              let most : rank o root ≤ rank o root = omega arith in
              rw (own.0, ← same) (p.0, much, (order.own root p.0, most))
          | inr was ↦ let t = h.rooted v r was in let much : k + 1 ≤ rank o r = t.1 in (t.0, omega arith, t.2)
        ];
        bounded = h.bounded;
        ahead = λ v n j y is lt there. settled_kept o roots more onward onward y keep (λ w none. none) (h.ahead v n j y is lt there);
        behind = λ v r is. elim (set_cases roots root v None (Some root) (Some r) new is) [
          | inl own ↦ inl (rw own.0 (Contains-push waiting root))
          | inr was ↦ elim (h.behind v r was) [ inl wait ↦ inl (Contains-append_left waiting (root ∷ []) v wait) | inr done ↦ inr done ]
        ];
        real = λ v y is. leads_kept graph roots more v y keep (h.real v y is);
        some = λ v r is nil. elim (set_cases roots root v None (Some root) (Some r) new is) [
          | inl own ↦ let same : root ≡ r = same_some root r own.1 in sym same ∙ sym own.0
          | inr was ↦ h.some v r was nil
        ];
        depth = put root 0 h.depth;
        shallow = put_shallow roots root root 0 h.depth new (length graph) (omega arith) h.shallow;
        nearer = λ v y is. put_nearer roots root root 0 h.depth new graph v y (h.real v y is) (h.nearer v y is);
      }

-- no node was met
pub start : (graph : List Node) (o : Order) (order : IsOrder graph o) (count : ℕ) → count ≡ length graph → (roots : List (Option ℕ))
    (onward : List (Option Link)) (entered waiting : List ℕ) → roots ≡ replicate count None → onward ≡ replicate count None
    → entered ≡ replicate count 0 → Sound graph o (length graph) roots onward entered waiting
start graph o order count is roots onward entered waiting no_root no_link none = record {
  roots_sized = ap length no_root ∙ length-replicate count None ∙ is;
  onward_sized = ap length no_link ∙ length-replicate count None ∙ is;
  entered_sized = ap length none ∙ length-replicate count 0 ∙ is;
  taken = λ v room new.
      let sized : length o.nodes.items ≡ length graph = order.sized in
      let within : rank o v < length o.nodes.items = slice_get_within o.nodes.items (rank o v) v (order.placed v room) in
      omega arith;
  rooted = λ v r of. absurd (rootless v r of);
  bounded = λ v n at. let zero : 0 ≡ n = get_same count v 0 n (rw none at at) in omega arith;
  ahead = λ v n k l at lt there. let zero : 0 ≡ n = get_same count v 0 n (rw none at at) in absurd (omega arith);
  behind = λ v r of. absurd (rootless v r of);
  real = λ v l at. absurd (none_some l (get_same count v None (Some l) (rw no_link at at)));
  some = λ v r of nil. absurd (rootless v r of);
  depth = λ v. 0;
  shallow = λ v r of. absurd (rootless v r of);
  nearer = λ v l at. absurd (none_some l (get_same count v None (Some l) (rw no_link at at)));
}
  where
    rootless : (v r : ℕ) → IsOf roots r v → ⊥
    rootless v r of = none_some r (get_same count v None (Some r) (rw no_root at of))
