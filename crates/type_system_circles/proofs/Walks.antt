-- Links that lead from node to node.
use Rattle.std.proofs.Common.{◌≡◌, ℕ, ◌+◌, ◌<◌, List, [], ◌∷◌, ◌++◌, length, refl, sym, subst, ap, arith, inl, inr, zero, suc, Some, slice_get, take, drop, length-append}
use Rattle.std.specs.List.{Contains}
use Rattle.std.proofs.lemmas.List.{take-append-drop}
use Rattle.std.proofs.lemmas.List.Elements.{Contains-append_cases, Contains-append_left, Contains-append_right}
use Rattle.fragment_graph.proofs.Lists.{none_some, same_some}
use Rattle.type_system_circles.specs.declared.graph.Link.{Link}
use Rattle.type_system_circles.specs.declared.graph.Node.{Node}
use Rattle.type_system_circles.specs.Graph.{IsCircle, IsWalk, Stands}
use Rattle.type_system_circles.specs.Sound.{path_to}

pub path-more : (ls : List Link) (l : Link) (t : ℕ) → path_to (ls ++ l ∷ []) t ≡ path_to ls l.from ++ t ∷ []
path-more [] l t = refl
path-more (x ∷ xs) l t = ap (λ (ns : List ℕ). x.from ∷ ns) (path-more xs l t)

pub length-path : (ls : List Link) (t : ℕ) → length (path_to ls t) ≡ length ls + 1
length-path [] t = refl
length-path (x ∷ xs) t = let h = length-path xs t in omega (arith, h)

module _ (graph : List Node) where
  pub walk_more : (a : ℕ) (ls : List Link) (l : Link) → IsWalk graph a ls l.from → Stands graph l → IsWalk graph a (ls ++ l ∷ []) l.edge.target
  walk_more a [] l w s = (sym w, s, refl)
  walk_more a (x ∷ xs) l w s = (w.0, w.1, walk_more x.edge.target xs l w.2 s)

  pub walk_front : (a : ℕ) (ls : List Link) (l : Link) (b : ℕ) → IsWalk graph a (ls ++ l ∷ []) b → IsWalk graph a ls l.from × (l.edge.target ≡ b)
  walk_front a [] l b w = (sym w.0, w.2)
  walk_front a (x ∷ xs) l b w = let r = walk_front x.edge.target xs l b w.2 in ((w.0, w.1, r.0), r.1)

  pub walk_from : (d a : ℕ) (ls : List Link) (b v : ℕ) → IsWalk graph a ls b → slice_get (path_to ls b) d ≡ Some v → IsWalk graph v (drop d ls) b
  walk_from zero a [] b v w g = sym (same_some b v g)
  walk_from (suc d) a [] b v w g = absurd (none_some v g)
  walk_from zero a (l ∷ ls) b v w g = (same_some l.from v g, w.1, w.2)
  walk_from (suc d) a (l ∷ ls) b v w g = walk_from d l.edge.target ls b v w.2 g

  walk_split : (a : ℕ) (xs ys : List Link) (b : ℕ) → IsWalk graph a (xs ++ ys) b → (m : ℕ) × IsWalk graph a xs m × IsWalk graph m ys b
  walk_split a [] ys b w = (a, refl, w)
  walk_split a (x ∷ xs) ys b w = let r = walk_split x.edge.target xs ys b w.2 in (r.0, (w.0, w.1, r.1), r.2)

  walk_join : (a : ℕ) (xs ys : List Link) (m b : ℕ) → IsWalk graph a xs m → IsWalk graph m ys b → IsWalk graph a (xs ++ ys) b
  walk_join a [] ys m b w v = subst (λ (z : ℕ). IsWalk graph z ys b) (sym w) v
  walk_join a (x ∷ xs) ys m b w v = (w.0, w.1, walk_join x.edge.target xs ys m b w.2 v)

  turned : (xs ys : List Link) → IsCircle graph (xs ++ ys) → IsCircle graph (ys ++ xs)
  turned xs ys c =
      let r = walk_split c.node xs ys c.node c.walk in
      let some : 0 < length (xs ++ ys) = c.some in
      record {
        node = r.0;
        walk = walk_join r.0 ys xs c.node r.0 r.2 r.1;
        some = omega (arith, some, length-append xs ys, length-append ys xs);
      }

  -- a circle from another of its nodes
  pub circle_turned : (i : ℕ) (ls ms : List Link) → ms ≡ drop i ls ++ take i ls → IsCircle graph ls → IsCircle graph ms
  circle_turned i ls ms e c =
      subst (IsCircle graph) (sym e) (turned (take i ls) (drop i ls) (subst (IsCircle graph) (sym (take-append-drop i ls)) c))

pub turned_has : (i : ℕ) (ls ms : List Link) (l : Link) → ms ≡ drop i ls ++ take i ls → Contains ls l → Contains ms l
turned_has i ls ms l e h =
    subst (λ (zs : List Link). Contains zs l) (sym e)
    (elim (Contains-append_cases (take i ls) (drop i ls) l (subst (λ (zs : List Link). Contains zs l) (sym (take-append-drop i ls)) h)) [
      | inl front ↦ Contains-append_right (drop i ls) (take i ls) l front
      | inr rest ↦ Contains-append_left (drop i ls) (take i ls) l rest
    ])
