-- The places of what is reached.
use Rattle.std.proofs.Common.{◌≡◌, ℕ, ◌+◌, List, [], ◌++◌, length, refl, sym, subst, ap, arith, inl, inr, Bool, true, cond, Option, Some, map, slice_get, ◌∙◌}
use Rattle.std.specs.List.{Contains, flat_map}
use Rattle.std.specs.Option.{option_map_or}
use Rattle.std.proofs.lemmas.Bool.{cases_lt}
use Rattle.std.proofs.lemmas.Option.{slice_get_past, slice_get_within}
use Rattle.std.proofs.lemmas.List.Elements.{Contains-append_left, Contains-append_right}
use Rattle.language.specs.declared.tree.Definition.{Definition}
use Rattle.language.specs.declared.tree.Definition.TheVariants as definition
use Rattle.fragment_graph.specs.declared.graph.Node.{Node}
use Rattle.fragment_graph.specs.declared.graph.Spread.{Spread}
use Rattle.fragment_graph.specs.declared.numbers.Numbers.{Numbers}
use Rattle.fragment_graph.specs.Numbers.{number_of, names_of, Defines}
use Rattle.fragment_graph.specs.Spreads.{PlacedSpreads}
use Rattle.fragment_graph.specs.DocumentGraph.{resolved}
use Rattle.fragment_graph.proofs.Lists.{same_item, contains_at, contains_get}
use Rattle.fragment_graph.proofs.Numbering.{named}
use Rattle.fragment_graph.proofs.NamePaths.{flat_get, name_of, split_get}
use Rattle.fragment_reach.specs.Reach.{ScopeName, operation, fragment, definition_spreads, operation_named, scope_spreads, Reach, start, onward}
use Rattle.fragment_reach.specs.Search.{MarksReached, Reached, WellMarked}
use Rattle.fragment_reach.proofs.Existence.{explored}
use Rattle.fragment_reach.proofs.Reaching.{begin_at, further_at, named_reached, marked_at, contains_flat}
use Rattle.operation_scopes.specs.declared.index.ScopeIndex.{ScopeIndex}
use Rattle.operation_scopes.specs.Index.{IsIndexOf}
use Rattle.operation_scopes.specs.Places.{places_of}
use Rattle.operation_scopes.specs.Scopes.{InReach, IsOnce, same_scope, scope_of}
use Rattle.operation_scopes.specs.Searches.{fragment_places, spreads_at}
use Rattle.operation_scopes.proofs.Once.{once_append, once_flat, once_none}
use Rattle.operation_scopes.proofs.PlaceLists.{flat_places, places_get, places_has, places_once}
use Rattle.operation_scopes.proofs.ScopeTests.{scope_same, scope_self}

same_fragment : (a b : List ℕ) → fragment a ≡ fragment b → a ≡ b
same_fragment a b e = cc

other_kind : (a : Option (List ℕ)) (b : List ℕ) → operation a ≡ fragment b → ⊥
other_kind a b e = cc

module _ {S : Type 0} (document : List (Definition S)) where
  abbrev is_in : ScopeName → Definition S → Bool
  is_in s d = same_scope (scope_of d) s

  -- the definitions at the places of a scope
  place_scope : (s : ScopeName) (j : ℕ) → Contains (places_of document s) j → (d : Definition S) × (slice_get document j ≡ Some d) × (scope_of d ≡ s)
  place_scope s j c =
      let m = contains_get (places_of document s) j c in
      let (i, d, e, at, t) = places_get (is_in s) 0 document m.0 j m.1 in
      let e' : i ≡ j = omega (arith, e) in
      (d, ap (slice_get document) (sym e') ∙ at, scope_same (scope_of d) s t)

  scope_place : (s : ScopeName) (j : ℕ) (d : Definition S) → slice_get document j ≡ Some d → scope_of d ≡ s → Contains (places_of document s) j
  scope_place s j d at e =
      let z : 0 + j ≡ j = omega arith in
      subst (λ k. Contains (places_of document s) k) z (places_has (is_in s) 0 document j d at (subst (λ t. same_scope (scope_of d) t ≡ true) e (scope_self (scope_of d))))

  -- a place is one scope's
  one_scope : (s t : ScopeName) (j : ℕ) → Contains (places_of document s) j → Contains (places_of document t) j → s ≡ t
  one_scope s t j a b =
      let (d, at, p) = place_scope s j a in
      let (e, there, q) = place_scope t j b in
      sym p ∙ ap scope_of (same_item d e (slice_get document j) at there) ∙ q

  named_spreads : (name : Option (List ℕ)) (d : Definition S) → cond (is_in (operation name) d) (definition_spreads d) [] ≡ operation_named name d
  named_spreads name (definition.Operation o) = refl
  named_spreads name (definition.Fragment f) = refl

  -- what is spread at the places of the operations of a name
  pub spreads_at_places : (name : Option (List ℕ)) → flat_map (spreads_at document) (places_of document (operation name)) ≡ scope_spreads document (operation name)
  spreads_at_places name = flat_places (is_in (operation name)) definition_spreads document ∙ (λ i. flat_map (λ d. named_spreads name d i) document)

  module _ (index : ScopeIndex) (h : IsIndexOf document index) (name : Option (List ℕ)) where
    abbrev n : Numbers
    n = index.graph.numbers

    abbrev nodes : List Node
    nodes = index.graph.nodes.items

    abbrev own : PlacedSpreads
    own = scope_spreads document (operation name)

    abbrev starts : List Spread
    starts = map (resolved n) own

    abbrev AtScope : ScopeName → Type 0
    AtScope (operation p) = p ≡ name
    AtScope (fragment f) = (k : ℕ) → number_of n f ≡ Some k → Reached nodes starts k

    at_scope : {t : ScopeName} → Reach document name t → AtScope t
    at_scope start = refl
    at_scope (onward {s = operation q} r x c) = λ k e.
        begin_at document index.graph h.graph own x (subst (λ z. Contains (scope_spreads document (operation z)) x) (at_scope r) c) k e
    at_scope (onward {s = fragment f} r x c) = λ k e. further_at document index.graph h.graph own f x c (at_scope r) k e

    fragment_reached : {k : ℕ} → Reached nodes starts k → (f : List ℕ) → number_of n f ≡ Some k → Reach document name (fragment f)
    fragment_reached r f e =
        named_reached document index.graph h.graph own (λ g. Reach document name (fragment g)) (λ y c. onward start y c) (λ g y s c. onward s y c) r f e

    kept_places : (f : List ℕ) (k : ℕ) → number_of n f ≡ Some k → fragment_places index k ≡ places_of document (fragment f)
    kept_places f k e = h.fragments f k e

    any_places : (k : ℕ) → IsOnce (fragment_places index k)
    any_places k = elim (cases_lt k (length (names_of n))) [
      | inl l ↦ let (f, e) = named n h.graph.numbers.numbered k l in subst IsOnce (sym (kept_places f k e)) (places_once (is_in (fragment f)) document)
      | inr p ↦
          let lists = h.lists in
          subst IsOnce (sym (ap (λ o. option_map_or (λ v. v.items) o []) (slice_get_past index.fragments.items k (omega (arith, p, lists))))) once_none
    ]

    module _ (order : List ℕ) (marks : List Bool) (m : MarksReached nodes starts marks) (w : WellMarked order marks) where
      listed_name : (k : ℕ) → Contains order k → (f : List ℕ) × (number_of n f ≡ Some k) × Reach document name (fragment f)
      listed_name k c =
          let at = contains_get order k c in
          let marked = w.marked at.0 k at.1 in
          let low = slice_get_within marks k true marked in
          let sized = m.sized in
          let (f, e) = name_of document n nodes h.graph.numbers h.graph.nodes k (λ l. omega (arith, l, low, sized)) in
          (f, e, fragment_reached (m.real k marked) f e)

      -- a fragment's place is that of one that is reached
      place_name : (k j : ℕ) → Contains order k → Contains (fragment_places index k) j
          → (f : List ℕ) × (number_of n f ≡ Some k) × Contains (places_of document (fragment f)) j × Reach document name (fragment f)
      place_name k j c p =
          let (f, e, r) = listed_name k c in
          (f, e, subst (λ zs. Contains zs j) (kept_places f k e) p, r)

      abbrev places : List ℕ
      places = places_of document (operation name) ++ flat_map (fragment_places index) order

      found_one : (j : ℕ) → Contains places j → (d : Definition S) × (slice_get document j ≡ Some d) × Reach document name (scope_of d)
      found_one j c =
          let at = contains_get places j c in
          elim (split_get (places_of document (operation name)) (flat_map (fragment_places index) order) at.0 j at.1) [
            | inl a ↦
                let (d, here, s) = place_scope (operation name) j (contains_at (places_of document (operation name)) a.0 j a.1) in
                (d, here, subst (λ z. Reach document name z) (sym s) start)
            | inr b ↦
                let (k, (i, listed), (p, inside)) = flat_get (fragment_places index) order b.0 j b.1 in
                let (f, e, stands, r) = place_name k j (contains_at order i k listed) (contains_at (fragment_places index k) p j inside) in
                let (d, here, s) = place_scope (fragment f) j stands in
                (d, here, subst (λ z. Reach document name z) (sym s) r)
          ]

      all_found : (j : ℕ) (d : Definition S) → slice_get document j ≡ Some d → Reach document name (scope_of d) → Contains places j
      all_found j (definition.Operation o) at r =
          Contains-append_left (places_of document (operation name)) (flat_map (fragment_places index) order) j
          (scope_place (operation name) j (definition.Operation o) at (ap operation (at_scope r)))
      all_found j (definition.Fragment f) at r =
          let called : List ℕ = f.item.name.item.now in
          let defined : Defines document called = (definition.Fragment f, contains_at document j (definition.Fragment f) at, refl) in
          let k = (h.graph.numbers.defined called).1 defined in
          let marked = marked_at document index.graph h.graph own marks m called k.0 k.1 (at_scope r k.0 k.1) in
          let i = w.listed k.0 marked in
          let here = contains_get (fragment_places index k.0) j
          (subst (λ zs. Contains zs j) (sym (kept_places called k.0 k.1)) (scope_place (fragment called) j (definition.Fragment f) at refl)) in
          Contains-append_right (places_of document (operation name)) (flat_map (fragment_places index) order) j
          (contains_flat (fragment_places index) order i.0 k.0 here.0 j i.1 here.1)

      apart : (a b j : ℕ) → Contains order a → Contains order b → Contains (fragment_places index a) j → Contains (fragment_places index b) j → a ≡ b
      apart a b j c d p q =
          let (f, e, stands, r) = place_name a j c p in
          let (g, e', stands', r') = place_name b j d q in
          let same = same_fragment f g (one_scope (fragment f) (fragment g) j stands stands') in
          same_item a b (number_of n g) (ap (number_of n) (sym same) ∙ e) e'

      places_apart : (j : ℕ) → Contains (places_of document (operation name)) j → Contains (flat_map (fragment_places index) order) j → ⊥
      places_apart j c d =
          let at = contains_get (flat_map (fragment_places index) order) j d in
          let (k, (i, listed), (p, inside)) = flat_get (fragment_places index) order at.0 j at.1 in
          let (f, e, stands, r) = place_name k j (contains_at order i k listed) (contains_at (fragment_places index k) p j inside) in
          other_kind name f (one_scope (operation name) (fragment f) j c stands)

      all_in_reach : InReach document name places
      all_in_reach = record {
        once = once_append (places_of document (operation name)) (flat_map (fragment_places index) order) (places_once (is_in (operation name)) document)
            (once_flat (fragment_places index) order w.once any_places apart) places_apart;
        within = λ k c. let (d, at, r) = found_one k c in slice_get_within document k d at;
        reached = λ k d at. (
          λ c. let (e, here, r) = found_one k c in subst (λ z. Reach document name (scope_of z)) (same_item e d (slice_get document k) here at) r,
          all_found k d at,
        );
      }

    pub in_reach : (own order found : List ℕ) (marks : List Bool) → own ≡ places_of document (operation name) → MarksReached nodes (map (resolved n) (flat_map (spreads_at document) own)) marks → WellMarked order marks
        → found ≡ own ++ flat_map (fragment_places index) order → InReach document name found
    in_reach first order found marks kept m w e =
        let all = subst (λ zs. MarksReached nodes (map (resolved n) zs) marks) (ap (flat_map (spreads_at document)) kept ∙ spreads_at_places name) m in
        subst (InReach document name) (sym (e ∙ ap (λ z. z ++ flat_map (fragment_places index) order) kept)) (all_in_reach order marks all w)

    -- there are such places, though no one searches for them
    pub some_reach : (places : List ℕ) × InReach document name places
    some_reach =
        let first = places_of document (operation name) in
        let (order, marks, m, w) = explored nodes (map (resolved n) (flat_map (spreads_at document) first)) in
        (first ++ flat_map (fragment_places index) order, in_reach first order (first ++ flat_map (fragment_places index) order) marks refl m w refl)
