-- The state of the search backwards before and after a step.
use Rattle.std.proofs.Common.{◌≡◌, ℕ, ◌+◌, ◌-◌, ◌<◌, ◌≤◌, List, [], ◌∷◌, ◌++◌, length, length-append, ap, arith, inl, inr, Option, None, Some, slice_get, slice_set, take, ◌∙◌}
use Rattle.std.proofs.lemmas.List.Elements.{Contains-append_left, Contains-push, Contains-push_cases}
use Rattle.std.proofs.lemmas.Option.{slice_get_within}
use Rattle.name_tables.proofs.Lists.{take_front}
use Rattle.fragment_graph.proofs.Lists.{contains_none, get_some, none_some, set_keep, set_same}
use Rattle.type_system_circles.specs.declared.graph.Link.{Link}
use Rattle.type_system_circles.specs.declared.graph.Node.{Node}
use Rattle.type_system_circles.specs.Graph.{Stands}
use Rattle.type_system_circles.proofs.Named.{stands_inside}
use Rattle.graph_ways.specs.declared.backwards.Search.{Search}
use Rattle.graph_ways.specs.declared.order.Order.{Order}
use Rattle.graph_ways.specs.Backwards.{Idle, InRound, IsDone, IsOf, Settled}
use Rattle.graph_ways.specs.Order.{IsOrder, rank}
use Rattle.graph_ways.specs.Ways.{links_to}
use Rattle.graph_ways.proofs.Rounds.{begun, entered_one, from_back, left, met, met_settled, noted, noted_settled, old_settled}

-- what was taken off the end
pub popped : (xs rest front : List ℕ) (n u : ℕ) → n ≡ length xs → xs ≡ front ++ u ∷ [] → rest ≡ take (n - 1) xs → xs ≡ rest ++ u ∷ []
popped xs rest front n u len is cut =
    let size : n - 1 ≡ length front = omega (arith, ap length is, length-append front (u ∷ [])) in
    let e : rest ≡ front = cut ∙ ap (λ k. take k xs) size ∙ ap (take (length front)) is ∙ take_front front (u ∷ []) in
    rw e is

module _ (graph : List Node) (o : Order) (root : ℕ) (s : Search) (r : InRound graph o root s) where
  pub link_onward : (v : ℕ) → v < length graph → (m : Option Link) × (slice_get s.onward.items v ≡ Some m)
  link_onward v room = let sized : length s.onward.items ≡ length graph = r.sound.onward_sized in get_some s.onward.items v (omega arith)

  pub inside : (v q : ℕ) → IsOf s.roots.items q v → v < length graph
  inside v q is =
      let sized : length s.roots.items ≡ length graph = r.sound.roots_sized in
      let room : v < length s.roots.items = slice_get_within s.roots.items v (Some q) is in
      omega arith

  pub meets : (t : Search) (order : IsOrder graph o) (l : Link) → Stands graph l → IsOf s.roots.items root l.edge.target
      → slice_get s.roots.items l.from ≡ Some None → t.roots.items ≡ slice_set s.roots.items l.from (Some root)
      → t.onward.items ≡ slice_set s.onward.items l.from (Some l) → t.entered.items ≡ s.entered.items
      → t.waiting.items ≡ s.waiting.items ++ l.from ∷ [] → InRound graph o root t
  meets t order l stands to new roots onward entered waiting =
      let x : ℕ = l.from in
      let room : x < length graph = stands_inside graph l stands in
      let m = link_onward x room in
      let f = r.sound.rooted l.edge.target root to in
      let low : rank o x < rank o root = r.sound.taken x room new in
      let from = from_back graph o order root l stands f.0 (inside l.edge.target root to) f.2 low in
      let keep : (v q : ℕ) → IsOf s.roots.items q v → IsOf t.roots.items q v =
      λ v q is. rw roots (set_keep s.roots.items x v None (Some root) (Some q) new (λ e. none_some q e) is) in
      record {
        sound = rw (roots, onward, entered, waiting)
            (met graph o (rank o root) s.roots.items s.onward.items s.entered.items s.waiting.items r.sound root l m.0 new m.1 stands to
            from);
        own = keep root root r.own;
        here = λ v on. elim (Contains-push_cases s.waiting.items x v (rw waiting at on)) [
          | inl was ↦ keep v root (r.here v was)
          | inr e ↦ rw (← e, roots) (set_same s.roots.items x None (Some root) new)
        ];
      }

  pub meets_settled : (l : Link) → Stands graph l → IsOf s.roots.items root l.edge.target → slice_get s.roots.items l.from ≡ Some None
      → Settled o (slice_set s.roots.items l.from (Some root)) (slice_set s.onward.items l.from (Some l)) l
  meets_settled l stands to new =
      let m = link_onward l.from (stands_inside graph l stands) in
      met_settled graph o (rank o root) s.roots.items s.onward.items s.entered.items s.waiting.items r.sound root l m.0 new m.1 to

  pub notes : (t : Search) (l : Link) → Stands graph l → l.from ≡ root → IsOf s.roots.items root l.edge.target
      → t.roots.items ≡ s.roots.items → t.onward.items ≡ slice_set s.onward.items root (Some l) → t.entered.items ≡ s.entered.items
      → t.waiting.items ≡ s.waiting.items → InRound graph o root t
  notes t l stands from to roots onward entered waiting =
      let m = link_onward root (inside root root r.own) in
      record {
        sound = rw (roots, onward, entered, waiting)
            (noted graph o (rank o root) s.roots.items s.onward.items s.entered.items s.waiting.items r.sound root l m.0 m.1 stands from
            r.own to);
        own = rw roots r.own;
        here = λ v on. rw roots (r.here v (rw waiting at on));
      }

  pub notes_settled : (l : Link) → l.from ≡ root → IsOf s.roots.items root l.edge.target
      → Settled o s.roots.items (slice_set s.onward.items root (Some l)) l
  notes_settled l from to =
      let m = link_onward root (inside root root r.own) in
      noted_settled graph o (rank o root) s.roots.items s.onward.items s.entered.items s.waiting.items r.sound root l m.0 m.1 from r.own to

  pub knows_settled : (l : Link) (a : ℕ) → (l.from ≡ root → ⊥) → IsOf s.roots.items a l.from → IsOf s.roots.items root l.edge.target
      → Settled o s.roots.items s.onward.items l
  knows_settled l a other from to =
      let same : rank o root ≤ rank o root = omega arith in
      old_settled graph o (rank o root) s.roots.items s.onward.items s.entered.items s.waiting.items r.sound root a l other same from to

  pub enters : (t : Search) (l : Link) (n : ℕ) → slice_get (links_to graph l.edge.target) n ≡ Some l
      → slice_get s.entered.items l.edge.target ≡ Some n → Settled o s.roots.items s.onward.items l → t.roots.items ≡ s.roots.items
      → t.onward.items ≡ s.onward.items → t.entered.items ≡ slice_set s.entered.items l.edge.target (n + 1)
      → t.waiting.items ≡ s.waiting.items → InRound graph o root t
  enters t l n link next settled roots onward entered waiting = record {
    sound = rw (roots, onward, entered, waiting)
        (entered_one graph o (rank o root) s.roots.items s.onward.items s.entered.items s.waiting.items r.sound l.edge.target n l next link
        settled);
    own = rw roots r.own;
    here = λ v on. rw roots (r.here v (rw waiting at on));
  }

  pub leaves : (t : Search) (u : ℕ) → s.waiting.items ≡ t.waiting.items ++ u ∷ [] → IsDone graph s.entered.items u
      → t.roots.items ≡ s.roots.items → t.onward.items ≡ s.onward.items → t.entered.items ≡ s.entered.items → InRound graph o root t
  leaves t u waiting done roots onward entered = record {
    sound = rw (roots, onward, entered)
        (left graph o (rank o root) s.roots.items s.onward.items s.entered.items s.waiting.items r.sound t.waiting.items u waiting done);
    own = rw roots r.own;
    here = λ v on. rw roots (r.here v (rw waiting (Contains-append_left t.waiting.items (u ∷ []) v on)));
  }

  -- the node that waits last was met from the root
  pub last_of : (front : List ℕ) (u : ℕ) → s.waiting.items ≡ front ++ u ∷ [] → IsOf s.roots.items root u
  last_of front u is = r.here u (rw is (Contains-push front u))

-- the search begins
pub begins : (graph : List Node) (o : Order) (order : IsOrder graph o) (root : ℕ) (s t : Search) → root < length graph
    → Idle graph o (rank o root + 1) s → slice_get s.roots.items root ≡ Some None → t.roots.items ≡ slice_set s.roots.items root (Some root)
    → t.onward.items ≡ s.onward.items → t.entered.items ≡ s.entered.items → t.waiting.items ≡ s.waiting.items ++ root ∷ []
    → InRound graph o root t
begins graph o order root s t room idle new roots onward entered waiting =
    let own : IsOf t.roots.items root root = rw roots (set_same s.roots.items root None (Some root) new) in
    record {
      sound = rw (roots, onward, entered, waiting)
          (begun graph o order (rank o root) root (order.placed root room) s.roots.items s.onward.items s.entered.items s.waiting.items
          idle.sound new);
      own = own;
      here = λ v on. elim (Contains-push_cases s.waiting.items root v (rw waiting at on)) [
        | inl was ↦ absurd (contains_none v (rw idle.none at was))
        | inr e ↦ rw (← e) own
      ];
    }
