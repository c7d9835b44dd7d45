-- Fragments that are reached by names are those that are reached by numbers.
use Rattle.std.proofs.Common.{◌≡◌, ℕ, List, [], ◌∷◌, length, map, refl, subst, ap, arith, inl, inr, ◌↔◌, Bool, true, false, cond, Option, Some, None, option_map, zero, suc, slice_get, ◌∙◌}
use Rattle.std.specs.List.{Contains, flat_map}
use Rattle.std.specs.Option.{unwrap_or}
use Rattle.std.proofs.lemmas.Slice.Eq.{bytes_eq-Decides}
use Rattle.std.proofs.lemmas.List.Elements.{Contains-append_left, Contains-append_right}
use Rattle.language.specs.declared.tree.Definition.{Definition}
use Rattle.language.specs.declared.tree.Definition.TheVariants as definition
use Rattle.fragment_graph.specs.declared.graph.Node.{Node}
use Rattle.fragment_graph.specs.declared.graph.Spread.{Spread}
use Rattle.fragment_graph.specs.declared.numbers.Numbers.{Numbers}
use Rattle.fragment_graph.specs.declared.document_graph.DocumentGraph.{DocumentGraph}
use Rattle.fragment_graph.specs.Spreads.{PlacedSpread, PlacedSpreads, placed_spreads_of_all, spreads_of_name}
use Rattle.fragment_graph.specs.Numbers.{number_of, names_of}
use Rattle.fragment_graph.specs.DocumentGraph.{resolved, IsGraphOf}
use Rattle.fragment_graph.proofs.Lists.{none_some, same_some, contains_at, contains_get}
use Rattle.fragment_graph.proofs.Judge.{inside}
use Rattle.fragment_graph.proofs.Numbering.{below, single}
use Rattle.fragment_graph.proofs.NamePaths.{has, edge, origin, target, name_of, flat_get, map_get, get_map}
use Rattle.fragment_reach.specs.Search.{Reached, begin, further, IsMarked, MarksReached}
use Rattle.fragment_reach.specs.Reach.{ScopeName, operation, fragment, same_name, definition_spreads, operation_spreads, operation_named, Reach, start, onward, IsReached}

of_test : {X : Type 0} (b : Bool) (xs : List X) (j : ℕ) (x : X) → slice_get (cond b xs []) j ≡ Some x → slice_get xs j ≡ Some x
of_test true xs j x h = h
of_test false xs j x h = absurd (none_some x h)

pub contains_flat : {X Y : Type 0} (f : X → List Y) (xs : List X) (i : ℕ) (d : X) (j : ℕ) (y : Y) → slice_get xs i ≡ Some d → slice_get (f d) j ≡ Some y → Contains (flat_map f xs) y
contains_flat f [] i d j y h g = absurd (none_some d h)
contains_flat f (x ∷ xs) zero d j y h g =
    Contains-append_left (f x) (flat_map f xs) y (contains_at (f x) j y (ap (λ z. slice_get (f z) j) (same_some x d h) ∙ g))
contains_flat f (x ∷ xs) (suc i) d j y h g = Contains-append_right (f x) (flat_map f xs) y (contains_flat f xs i d j y h g)

same_self : (o : Option (List ℕ)) → same_name o o ≡ true
same_self None = refl
same_self (Some a) = (bytes_eq-Decides a a).1 refl

module _ {S : Type 0} where
  -- a spread of the operations of a name is one of an operation
  of_named : (p : Option (List ℕ)) (d : Definition S) (j : ℕ) (x : PlacedSpread) → slice_get (operation_named p d) j ≡ Some x → slice_get (definition_spreads d) j ≡ Some x
  of_named p (definition.Fragment f) j x h = absurd (none_some x h)
  of_named p (definition.Operation o) j x h = of_test (same_name (option_map (λ n. n.item.now) o.item.name) p) (placed_spreads_of_all o.item.selection_set.items) j x h

  among_all : (document : List (Definition S)) (p : Option (List ℕ)) (x : PlacedSpread) → Contains (flat_map (operation_named p) document) x → Contains (operation_spreads document) x
  among_all document p x c =
      let i = contains_get (flat_map (operation_named p) document) x c in
      let (d, at, here) = flat_get (operation_named p) document i.0 x i.1 in
      contains_flat definition_spreads document at.0 d here.0 x at.1 (of_named p d here.0 x here.1)

  -- and one of an operation is one of the operations of its name
  to_named : (d : Definition S) (j : ℕ) (x : PlacedSpread) → slice_get (definition_spreads d) j ≡ Some x → (p : Option (List ℕ)) × (slice_get (operation_named p d) j ≡ Some x)
  to_named (definition.Fragment f) j x h = absurd (none_some x h)
  to_named (definition.Operation o) j x h =
      let p : Option (List ℕ) = option_map (λ n. n.item.now) o.item.name in
      (p, ap (λ b. slice_get (cond b (placed_spreads_of_all o.item.selection_set.items) []) j) (same_self p) ∙ h)

  of_operation : (document : List (Definition S)) (i : ℕ) (x : PlacedSpread) → slice_get (operation_spreads document) i ≡ Some x → (p : Option (List ℕ)) × Contains (flat_map (operation_named p) document) x
  of_operation document i x h =
      let (d, at, here) = flat_get definition_spreads document i x h in
      let (p, there) = to_named d here.0 x here.1 in
      (p, contains_flat (operation_named p) document at.0 d here.0 x at.1 there)

-- fragments that are reached from some spreads of the document
module _ {S : Type 0} (document : List (Definition S)) (g : DocumentGraph) (h : IsGraphOf document g) (xs : PlacedSpreads) where
  abbrev n : Numbers
  n = g.numbers

  abbrev nodes : List Node
  nodes = g.nodes.items

  abbrev starts : List Spread
  starts = map (resolved n) xs

  pub begin_at : (x : PlacedSpread) → Contains xs x → (k : ℕ) → number_of n x.name ≡ Some k → Reached nodes starts k
  begin_at x c k e =
      let i = contains_get xs x c in
      subst (λ (v : ℕ). Reached nodes starts v) (ap (λ o. unwrap_or o (length (names_of n))) e)
      (begin (resolved n x) (contains_at starts i.0 (resolved n x) (get_map (resolved n) xs i.0 x i.1)))

  pub further_at : (f : List ℕ) (x : PlacedSpread) → Contains (spreads_of_name document f) x → ((k : ℕ) → number_of n f ≡ Some k → Reached nodes starts k)
      → (l : ℕ) → number_of n x.name ≡ Some l → Reached nodes starts l
  further_at f x c ih l e =
      let k = has document n nodes h.numbers h.nodes f x.name (x, c, refl) in
      let s = edge document n nodes h.numbers h.nodes f x.name k.0 l k.1 e (x, c, refl) in
      subst (λ (v : ℕ). Reached nodes starts v) s.2 (further (ih k.0 k.1) s.0 s.1)

  -- a spread's target has the number that it was resolved to
  same_target : (x : Spread) (y : PlacedSpread) (f : List ℕ) → resolved n y ≡ x → number_of n f ≡ Some x.target → y.name ≡ f
  same_target x y f is e =
      elim (target document n nodes h.numbers h.nodes (number_of n y.name) x.target (ap (λ (z : Spread). z.target) is)) [
        | inl at ↦ single n h.numbers.numbered y.name f x.target at e
        | inr past ↦ let low = below n h.numbers.numbered f x.target e in absurd (omega (arith, low, past))
      ]

  -- what holds of the fragments that are spread first, and with one of those that it spreads, holds of all that are reached
  pub named_reached : (P : List ℕ → Type 0) → ((y : PlacedSpread) → Contains xs y → P y.name)
      → ((f : List ℕ) (y : PlacedSpread) → P f → Contains (spreads_of_name document f) y → P y.name)
      → {k : ℕ} → Reached nodes starts k → (f : List ℕ) → number_of n f ≡ Some k → P f
  named_reached P first next (begin x c) f e =
      let i = contains_get starts x c in
      let (y, at, is) = map_get (resolved n) xs i.0 x i.1 in
      subst P (same_target x y f is e) (first y (contains_at xs i.0 y at))
  named_reached P first next (further {u = u} r x c) f e =
      let from = name_of document n nodes h.numbers h.nodes u (inside nodes u x.target (x, c, refl)) in
      let (y, stands, is) = origin document n nodes h.numbers h.nodes from.0 u x from.1 c in
      subst P (same_target x y f is e) (next from.0 y (named_reached P first next r from.0 from.1) stands)

  pub marked_at : (marks : List Bool) → MarksReached nodes starts marks → (f : List ℕ) (k : ℕ) → number_of n f ≡ Some k → Reached nodes starts k → IsMarked marks k
  marked_at marks m f k e r =
      let low = below n h.numbers.numbered f k e in
      let sized = h.nodes.sized in
      m.all k (omega (arith, low, sized)) r

-- those that some operation reaches
module _ {S : Type 0} (document : List (Definition S)) (g : DocumentGraph) (h : IsGraphOf document g) where
  abbrev all : PlacedSpreads
  all = operation_spreads document

  abbrev AtNumber : ScopeName → Type 0
  AtNumber (operation p) = Unit {0}
  AtNumber (fragment f) = (k : ℕ) → number_of g.numbers f ≡ Some k → Reached g.nodes.items (map (resolved g.numbers) all) k

  reached_number : {p : Option (List ℕ)} {t : ScopeName} → Reach document p t → AtNumber t
  reached_number start = tt
  reached_number (onward {s = operation q} r x c) = λ k e. begin_at document g h all x (among_all document q x c) k e
  reached_number (onward {s = fragment f} r x c) = λ k e. further_at document g h all f x c (reached_number r) k e

  first_reached : (y : PlacedSpread) → Contains all y → IsReached document y.name
  first_reached y c =
      let i = contains_get all y c in
      let (p, stands) = of_operation document i.0 y i.1 in (p, onward start y stands)

  pub marks_names : (marks : List Bool) → MarksReached g.nodes.items (map (resolved g.numbers) all) marks → (f : List ℕ) (k : ℕ) → number_of g.numbers f ≡ Some k → IsMarked marks k ↔ IsReached document f
  marks_names marks m f k e = (
    λ marked. named_reached document g h all (IsReached document) first_reached (λ f' y (p, before) stands. (p, onward before y stands)) (m.real k marked) f e,
    λ reached. marked_at document g h all marks m f k e (reached_number reached.1 k e),
  )
