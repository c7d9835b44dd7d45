-- How the scopes of a document are listed, and which operation of a name is the last.
use Rattle.std.proofs.Common.{◌≡◌, ℕ, ◌+◌, ◌-◌, ◌<◌, take, List, [], ◌∷◌, ◌++◌, length, length-append, refl, sym, subst, ap, arith, inl, inr, ◌⊎◌, ◌↔◌, Bool, true, false, cond, Option, Some, None, option_map, slice_get, ◌∙◌, map, zero, suc, Vec}
use Rattle.std.specs.declared.alloc.Global.{Global}
use Rattle.std.specs.List.{Contains}
use Rattle.std.proofs.lemmas.List.{length-take-le}
use Rattle.std.proofs.lemmas.List.Elements.{Contains-append_left, Contains-push, Contains-push_cases}
use Rattle.language_types.specs.declared.position.Span.{Span}
use Rattle.language_types.specs.declared.position.Spanning.{Spanning}
use Rattle.language.specs.declared.tree.Definition.{Definition}
use Rattle.language.specs.declared.tree.Definition.TheVariants as definition
use Rattle.language.specs.declared.tree.Fragment.{Fragment}
use Rattle.language.specs.declared.tree.Operation.{Operation}
use Rattle.std.proofs.lemmas.Option.{slice_get_within}
use Rattle.std.proofs.lemmas.Slice.Eq.{bytes_eq-Decides}
use Rattle.fragment_graph.proofs.Lists.{none_some, same_item, same_some, get_end, get_more, get_snoc, get_some, contains_at, contains_get}
use Rattle.fragment_graph.proofs.Numbering.{below, single}
use Rattle.fragment_graph.specs.declared.numbers.Numbers.{Numbers}
use Rattle.fragment_graph.specs.DocumentGraph.{IsGraphOf}
use Rattle.fragment_graph.specs.Numbers.{defined_number, number_of, or_else, NumbersOf, WellNumbered}
use Rattle.fragment_reach.specs.Reach.{ScopeName, operation, fragment, same_name}
use Rattle.operation_scopes.specs.declared.index.ScopeIndex.{ScopeIndex}
use Rattle.operation_scopes.specs.declared.operation_numbers.OperationNumbers.{OperationNumbers}
use Rattle.operation_scopes.specs.Index.{AddsDefinition, AddsFragment, AddsOperation, AddsPlace, HasFragments, HasLists, HasOperations, HasSpreads, operation_names}
use Rattle.operation_scopes.specs.OperationNumbers.{number_at}
use Rattle.operation_scopes.specs.Places.{AddsAt, numbered_places, places_from, places_of}
use Rattle.operation_scopes.specs.Scopes.{IsLastOf, IsOperationName, OperationNames, operation_name, same_scope, scope_of}
use Rattle.operation_scopes.proofs.Growing.{at_pushed, before_pushed, each_more, next_places, not_true, same_places}
use Rattle.operation_scopes.proofs.Once.{once_push}
use Rattle.operation_scopes.proofs.PlaceLists.{places_get, places_has, places_last}
use Rattle.operation_scopes.proofs.ScopeTests.{is_operation, name_same, name_self}

at_map : {X Y : Type 0} (f : X → Y) (xs : List X) (i : ℕ) (x : X) (y : Y) → slice_get xs i ≡ Some x → slice_get (map f xs) i ≡ Some y → y ≡ f x
at_map f [] i x y h k = absurd (none_some x h)
at_map f (z ∷ xs) zero x y h k = sym (same_some (f z) y k) ∙ ap f (same_some z x h)
at_map f (z ∷ xs) (suc i) x y h k = at_map f xs i x y h k

module _ {S : Type 0} where
  abbrev is_in : ScopeName → Definition S → Bool
  is_in s d = same_scope (scope_of d) s

  -- a test of an operation's name holds of operations alone
  named_operation : (d : Definition S) (name : Option (List ℕ)) → is_in (operation name) d ≡ true → (o : Spanning (Operation S) Span) × (d ≡ definition.Operation o) × (operation_name o ≡ name)
  named_operation (definition.Operation o) name t = (o, refl, name_same (operation_name o) name t)
  named_operation (definition.Fragment f) name t = cc

  -- a name has a place if and only if some operation has it
  pub with_place : (xs : List (Definition S)) (name : Option (List ℕ)) → IsOperationName xs name → (k : ℕ) × Contains (places_of xs (operation name)) k
  with_place xs name (o, c, e) =
      let at = contains_get xs (definition.Operation o) c in
      (0 + at.0, places_has (is_in (operation name)) 0 xs at.0 (definition.Operation o) at.1 (is_operation o name e))

  named_by_place : (xs : List (Definition S)) (name : Option (List ℕ)) (m k : ℕ) → slice_get (places_of xs (operation name)) m ≡ Some k → IsOperationName xs name
  named_by_place xs name m k h =
      let (j, d, e, at, t) = places_get (is_in (operation name)) 0 xs m k h in
      let (o, is, named) = named_operation d name t in
      (o, contains_at xs j (definition.Operation o) (at ∙ ap Some is), named)

  name_more : (xs : List (Definition S)) (d : Definition S) (name : Option (List ℕ)) → IsOperationName xs name → IsOperationName (xs ++ d ∷ []) name
  name_more xs d name (o, c, e) = (o, Contains-append_left xs (d ∷ []) (definition.Operation o) c, e)

  name_split : (xs : List (Definition S)) (d : Definition S) (name : Option (List ℕ)) → IsOperationName (xs ++ d ∷ []) name → IsOperationName xs name ⊎ (is_in (operation name) d ≡ true)
  name_split xs d name (o, c, e) = elim (Contains-push_cases xs d (definition.Operation o) c) [
    | inl before ↦ inl (o, before, e)
    | inr is ↦ inr (subst (λ z. is_in (operation name) z ≡ true) (sym is) (is_operation o name e))
  ]

  names_same : (xs : List (Definition S)) (d : Definition S) (names : List (Option (List ℕ))) → OperationNames xs names → ((name : Option (List ℕ)) → is_in (operation name) d ≡ true → IsOperationName xs name)
      → OperationNames (xs ++ d ∷ []) names
  names_same xs d names h known = record {
    once = h.once;
    are = λ name. (
      λ c. name_more xs d name ((h.are name).0 c),
      λ n. elim (name_split xs d name n) [ inl before ↦ (h.are name).1 before | inr is ↦ (h.are name).1 (known name is) ],
    );
  }

  names_with : (xs : List (Definition S)) (o : Spanning (Operation S) Span) (names : List (Option (List ℕ))) → OperationNames xs names → (IsOperationName xs (operation_name o) → ⊥)
      → OperationNames (xs ++ definition.Operation o ∷ []) (names ++ operation_name o ∷ [])
  names_with xs o names h new = record {
    once = once_push names (operation_name o) h.once (λ c. new ((h.are (operation_name o)).0 c));
    are = λ name. (
      λ c. elim (Contains-push_cases names (operation_name o) name c) [
        | inl before ↦ name_more xs (definition.Operation o) name ((h.are name).0 before)
        | inr e ↦ (o, Contains-push xs (definition.Operation o), e)
      ],
      λ n. elim (name_split xs (definition.Operation o) name n) [
        | inl before ↦ Contains-append_left names (operation_name o ∷ []) name ((h.are name).1 before)
        | inr is ↦ subst (λ z. Contains (names ++ operation_name o ∷ []) z) (name_same (operation_name o) name is) (Contains-push names (operation_name o))
      ],
    );
  }

-- Names of operations by number: the numbers, the names, and the places at each.
pub record Listed {S : Type 0} (xs : List (Definition S)) (number : Option (List ℕ) → Option ℕ) (names : List (Option (List ℕ))) (lists : List (Vec ℕ Global)) : Type 0 where
  pub numbered : (name : Option (List ℕ)) (k : ℕ) → (number name ≡ Some k) ↔ (slice_get names k ≡ Some name)
  pub are : OperationNames xs names
  pub sized : length lists ≡ length names
  pub places : HasOperations xs names lists

or_none : {T : Type 0} (o : Option T) → or_else o None ≡ o
or_none None = refl
or_none (Some x) = refl

-- a number is the name's that it had, or the new one
split : (b : Bool) (o : Option ℕ) (next k : ℕ) → or_else o (cond b (Some next) None) ≡ Some k → (o ≡ Some k) ⊎ ((b ≡ true) × (next ≡ k))
split b (Some j) next k e = inl e
split true None next k e = inr (refl, same_some next k e)
split false None next k e = absurd (none_some k e)

module _ {S : Type 0} (xs : List (Definition S)) (number number' : Option (List ℕ) → Option ℕ) (names : List (Option (List ℕ))) (lists : List (Vec ℕ Global)) (h : Listed xs number names lists)
    (o : Spanning (Operation S) Span) (place : ℕ) (len : length xs ≡ place)
    (noted : (other : Option (List ℕ)) → number' other ≡ or_else (number other) (cond (same_name (operation_name o) other) (Some (length names)) None)) where
  abbrev called : Option (List ℕ)
  called = operation_name o

  abbrev d : Definition S
  d = definition.Operation o

  -- a name of the same number is the operation's
  tells : (name : Option (List ℕ)) (k : ℕ) → slice_get names k ≡ Some called → slice_get names k ≡ Some name → same_scope (scope_of d) (operation name) ≡ true
  tells name k here g = is_operation o name (same_item called name (slice_get names k) here g)

  module _ (k : ℕ) (known : number called ≡ Some k) where
    here : slice_get names k ≡ Some called
    here = (h.numbered called k).0 known

    kept_by : (name : Option (List ℕ)) (b : Bool) → same_name called name ≡ b → or_else (number name) (cond b (Some (length names)) None) ≡ number name
    kept_by name true e =
        let at : number name ≡ Some k = ap number (sym (name_same called name e)) ∙ known in
        ap (λ z. or_else z (Some (length names))) at ∙ sym at
    kept_by name false e = or_none (number name)

    kept : (name : Option (List ℕ)) → number' name ≡ number name
    kept name = noted name ∙ kept_by name (same_name called name) refl

    -- one more of a name that is listed
    pub known_more : (lists' : List (Vec ℕ Global)) → AddsAt k place lists lists' → Listed (xs ++ d ∷ []) number' names lists'
    known_more lists' adds = record {
      numbered = λ name j. (λ e. (h.numbered name j).0 (sym (kept name) ∙ e), λ g. kept name ∙ (h.numbered name j).1 g);
      are = names_same xs d names h.are (λ name is.
          subst (λ z. IsOperationName xs z) (name_same called name is) ((h.are.are called).0 (contains_at names k called here)));
      sized = adds.sized ∙ h.sized;
      places =
          let low = slice_get_within names k called here in
          let sized = h.sized in
          each_more (λ name j. slice_get names j ≡ Some name) (λ name x. same_scope (scope_of x) (operation name)) xs d place len k lists lists' adds (omega (arith, low, sized))
          (λ name g. tells name k here g)
          (λ name j g is. h.are.once j k name g (here ∙ ap Some (name_same called name is)))
          h.places;
    }

  module _ (new : number called ≡ None) where
    not_listed : (j : ℕ) → slice_get names j ≡ Some called → ⊥
    not_listed j g = none_some j (sym new ∙ (h.numbered called j).1 g)

    not_named : IsOperationName xs called → ⊥
    not_named n = let g = contains_get names called ((h.are.are called).1 n) in not_listed g.0 g.1

    no_places : (ps : List ℕ) → places_of xs (operation called) ≡ ps → ps ≡ []
    no_places [] e = refl
    no_places (p ∷ ps) e = absurd (not_named (named_by_place xs called 0 p (ap (λ zs. slice_get zs 0) e)))

    number_new : (name : Option (List ℕ)) (j : ℕ) → number' name ≡ Some j → slice_get (names ++ called ∷ []) j ≡ Some name
    number_new name j e = elim (split (same_name called name) (number name) (length names) j (sym (noted name) ∙ e)) [
      | inl old ↦ get_more names (called ∷ []) j name ((h.numbered name j).0 old)
      | inr (same, end) ↦ get_end names called j (sym end) ∙ ap Some (name_same called name same)
    ]

    new_number : (name : Option (List ℕ)) (j : ℕ) → slice_get (names ++ called ∷ []) j ≡ Some name → number' name ≡ Some j
    new_number name j g = elim (get_snoc names called j name g) [
      | inl old ↦ noted name ∙ ap (λ z. or_else z (cond (same_name called name) (Some (length names)) None)) ((h.numbered name j).1 old)
      | inr (end, same) ↦
          subst (λ z. number' z ≡ Some j) same
          (noted called ∙ ap (λ z. or_else z (cond (same_name called called) (Some (length names)) None)) new
          ∙ ap (λ b. cond b (Some (length names)) None) (name_self called) ∙ ap Some (sym end))
    ]

    new_places : (v : Vec ℕ Global) → v.items ≡ place ∷ [] → HasOperations (xs ++ d ∷ []) (names ++ called ∷ []) (lists ++ v ∷ [])
    new_places v is name j g = elim (get_snoc names called j name g) [
      | inl old ↦
          let low = slice_get_within names j name old in
          let sized = h.sized in
          before_pushed lists v j (omega (arith, low, sized)) ∙ h.places name j old
          ∙ sym (same_places (λ x. same_scope (scope_of x) (operation name)) xs d place len
          (not_true (same_name called name) (λ t. not_listed j (old ∙ ap Some (sym (name_same called name t))))))
      | inr (end, same) ↦
          let sized = h.sized in
          let e : j ≡ length lists = omega (arith, end, sized) in
          ap (numbered_places (lists ++ v ∷ [])) e ∙ at_pushed lists v ∙ is
          ∙ ap (λ zs. zs ++ place ∷ []) (sym (no_places (places_of xs (operation called)) refl))
          ∙ sym (next_places (λ x. same_scope (scope_of x) (operation called)) xs d place len true (is_operation o called refl))
          ∙ ap (λ z. places_of (xs ++ d ∷ []) (operation z)) same
    ]

    -- the first of a name
    pub new_more : (v : Vec ℕ Global) → v.items ≡ place ∷ [] → Listed (xs ++ d ∷ []) number' (names ++ called ∷ []) (lists ++ v ∷ [])
    new_more v is = record {
      numbered = λ name j. (number_new name j, new_number name j);
      are = names_with xs o names h.are not_named;
      sized = length-append lists (v ∷ []) ∙ ap (λ k. k + 1) h.sized ∙ sym (length-append names (called ∷ []));
      places = new_places v is;
    }

module _ {S : Type 0} (xs : List (Definition S)) (number : Option (List ℕ) → Option ℕ) (names : List (Option (List ℕ))) (lists : List (Vec ℕ Global)) where
  -- a fragment changes nothing of the operations
  pub fragment_listed : (d : Definition S) (place : ℕ) → length xs ≡ place → ((name : Option (List ℕ)) → same_scope (scope_of d) (operation name) ≡ false) → Listed xs number names lists
      → Listed (xs ++ d ∷ []) number names lists
  fragment_listed d place len other h = record {
    numbered = h.numbered;
    are = names_same xs d names h.are (λ name is. let e = other name in cc);
    sized = h.sized;
    places = λ name k g. h.places name k g ∙ sym (same_places (λ x. same_scope (scope_of x) (operation name)) xs d place len (other name));
  }

module _ {S : Type 0} (n : Numbers) (w : WellNumbered n) (xs : List (Definition S)) (d : Definition S) (place : ℕ) (len : length xs ≡ place) where
  -- an operation changes nothing of the fragments
  pub operation_kept : (lists : List (Vec ℕ Global)) → ((f : List ℕ) → same_scope (scope_of d) (fragment f) ≡ false) → HasFragments xs n lists → HasFragments (xs ++ d ∷ []) n lists
  operation_kept lists other h f k at = h f k at ∙ sym (same_places (λ x. same_scope (scope_of x) (fragment f)) xs d place len (other f))

  -- a definition more of a fragment
  pub fragment_more : (f : List ℕ) (k : ℕ) (lists lists' : List (Vec ℕ Global)) → scope_of d ≡ fragment f → number_of n f ≡ Some k → HasLists n lists → AddsAt k place lists lists' → HasFragments xs n lists
      → HasFragments (xs ++ d ∷ []) n lists'
  fragment_more f k lists lists' e at sized adds h =
      let low = below n w f k at in
      let same = sized in
      each_more (λ g j. number_of n g ≡ Some j) (λ g x. same_scope (scope_of x) (fragment g)) xs d place len k lists lists' adds (omega (arith, low, same))
      (λ g there. ap (λ s. same_scope s (fragment g)) e ∙ (bytes_eq-Decides f g).1 (single n w f g k at there))
      (λ g j there is.
      let called : f ≡ g = (bytes_eq-Decides f g).0 (sym (ap (λ s. same_scope s (fragment g)) e) ∙ is) in
      same_item j k (number_of n g) there (ap (number_of n) (sym called) ∙ at))
      h

module _ {S : Type 0} (n : Numbers) where
  -- what is noted at a definition's place is its number
  pub number_there : (document : List (Definition S)) (defined : List (Option ℕ)) (i : ℕ) (d : Definition S) (number : Option ℕ) → defined ≡ map (defined_number n) document
      → slice_get document i ≡ Some d → slice_get defined i ≡ Some number → number ≡ defined_number n d
  number_there document defined i d number e at noted = at_map (defined_number n) document i d number at (ap (λ zs. slice_get zs i) (sym e) ∙ noted)

  -- a fragment of the document has a number
  pub fragment_number : (document : List (Definition S)) (f : Spanning (Fragment S) Span) (number : Option ℕ) → NumbersOf document n → Contains document (definition.Fragment f) → number ≡ number_of n f.item.name.item.now
      → (k : ℕ) × (number ≡ Some k) × (number_of n f.item.name.item.now ≡ Some k)
  fragment_number document f number h c e = let (k, at) = (h.defined f.item.name.item.now).1 (definition.Fragment f, c, refl) in (k, e ∙ at, at)

-- what is listed where some definitions of the document were seen
pub record Indexed {S : Type 0} (document xs : List (Definition S)) (n : OperationNumbers) (index : ScopeIndex) : Type 0 where
  pub operations : Listed xs (number_at n) (operation_names index) index.operations.items
  pub fragments : HasFragments xs index.graph.numbers index.fragments.items
  pub lists : HasLists index.graph.numbers index.fragments.items
  pub graph : IsGraphOf document index.graph
  pub spreads : HasSpreads document index.graph.numbers index.spreads

module _ {S : Type 0} (document xs : List (Definition S)) (number : Option ℕ) (place : ℕ) (n n' : OperationNumbers) (old new : ScopeIndex) (len : length xs ≡ place) (h : Indexed document xs n old) where
  operation_by : (o : Spanning (Operation S) Span) (k : Option ℕ) → number_at n (operation_name o) ≡ k
      → ((other : Option (List ℕ)) → number_at n' other ≡ or_else (number_at n other) (cond (same_name (operation_name o) other) (Some (length (operation_names old))) None))
      → AddsPlace (operation_name o) place k old new → Listed (xs ++ definition.Operation o ∷ []) (number_at n') (operation_names new) new.operations.items
  operation_by o None e noted (names, v, is, lists) =
      subst (λ zs. Listed (xs ++ definition.Operation o ∷ []) (number_at n') zs new.operations.items) (sym names)
      (subst (λ zs. Listed (xs ++ definition.Operation o ∷ []) (number_at n') (operation_names old ++ operation_name o ∷ []) zs) (sym lists)
      (new_more xs (number_at n) (number_at n') (operation_names old) old.operations.items h.operations o place len noted e v is))
  operation_by o (Some k) e noted (names, adds) =
      subst (λ zs. Listed (xs ++ definition.Operation o ∷ []) (number_at n') (map (option_map (λ m. m.now)) zs.items) new.operations.items) (sym names)
      (known_more xs (number_at n) (number_at n') (operation_names old) old.operations.items h.operations o place len noted k e new.operations.items adds)

  operation_next : (o : Spanning (Operation S) Span) → AddsOperation (operation_name o) place n n' old new → Indexed document (xs ++ definition.Operation o ∷ []) n' new
  operation_next o adds =
      let d : Definition S = definition.Operation o in record {
        operations = operation_by o (number_at n (operation_name o)) refl adds.numbers adds.places;
        fragments =
            subst (λ z. HasFragments (xs ++ d ∷ []) z.numbers new.fragments.items) (sym adds.graph)
            (subst (λ z. HasFragments (xs ++ d ∷ []) old.graph.numbers z.items) (sym adds.fragments)
            (operation_kept old.graph.numbers h.graph.numbers.numbered xs d place len old.fragments.items (λ f. refl) h.fragments));
        lists =
            subst (λ z. HasLists z.numbers new.fragments.items) (sym adds.graph)
            (subst (λ z. HasLists old.graph.numbers z.items) (sym adds.fragments) h.lists);
        graph = subst (IsGraphOf document) (sym adds.graph) h.graph;
        spreads =
            subst (λ z. HasSpreads document z.numbers new.spreads) (sym adds.graph)
            (subst (HasSpreads document old.graph.numbers) (sym adds.spreads) h.spreads);
      }

  fragment_next : (f : Spanning (Fragment S) Span) → Contains document (definition.Fragment f) → number ≡ number_of old.graph.numbers f.item.name.item.now → n' ≡ n → AddsFragment number place old new
      → Indexed document (xs ++ definition.Fragment f ∷ []) n' new
  fragment_next f c e same adds =
      let d : Definition S = definition.Fragment f in
      let ys : List (Definition S) = xs ++ d ∷ [] in
      let (k, known, at) = fragment_number old.graph.numbers document f number h.graph.numbers c e in
      let more = adds.places k known in record {
        operations =
            subst (λ m. Listed ys (number_at m) (operation_names new) new.operations.items) (sym same)
            (subst (λ zs. Listed ys (number_at n) (map (option_map (λ m. m.now)) zs.items) new.operations.items) (sym adds.names)
            (subst (λ zs. Listed ys (number_at n) (operation_names old) zs.items) (sym adds.operations)
            (fragment_listed xs (number_at n) (operation_names old) old.operations.items d place len (λ name. refl) h.operations)));
        fragments =
            subst (λ z. HasFragments ys z.numbers new.fragments.items) (sym adds.graph)
            (fragment_more old.graph.numbers h.graph.numbers.numbered xs d place len f.item.name.item.now k old.fragments.items new.fragments.items refl at h.lists more h.fragments);
        lists = subst (λ z. HasLists z.numbers new.fragments.items) (sym adds.graph) (more.sized ∙ h.lists);
        graph = subst (IsGraphOf document) (sym adds.graph) h.graph;
        spreads =
            subst (λ z. HasSpreads document z.numbers new.spreads) (sym adds.graph)
            (subst (HasSpreads document old.graph.numbers) (sym adds.spreads) h.spreads);
      }

  -- after one definition more
  pub indexed_next : (d : Definition S) → Contains document d → number ≡ defined_number old.graph.numbers d → AddsDefinition d number place n n' old new → Indexed document (xs ++ d ∷ []) n' new
  indexed_next (definition.Operation o) c e adds = operation_next o adds
  indexed_next (definition.Fragment f) c e (same, adds) = fragment_next f c e same adds

module _ {S : Type 0} (document : List (Definition S)) (name : Option (List ℕ)) where
  abbrev own : List ℕ
  own = places_of document (operation name)

  -- the last place of a name has an operation of the name
  pub last_place : (k : ℕ) → slice_get own (length own - 1) ≡ Some k → (o : Spanning (Operation S) Span) × (slice_get document k ≡ Some (definition.Operation o))
  last_place k at =
      let (j, d, e, there, t) = places_get (is_in (operation name)) 0 document (length own - 1) k at in
      let (o, is, named) = named_operation d name t in
      let e' : j ≡ k = omega (arith, e) in
      (o, ap (slice_get document) (sym e') ∙ there ∙ ap Some is)

  -- and without one there is no such operation
  pub no_place : slice_get own (length own - 1) ≡ None → IsOperationName document name → ⊥
  no_place at some =
      let (k, c) = with_place document name some in
      let m = contains_get own k c in
      let inside = slice_get_within own m.0 k m.1 in
      let (x, found) = get_some own (length own - 1) (omega (arith, inside)) in
      none_some x (sym at ∙ found)

  pub last_of : (k : ℕ) (o : Spanning (Operation S) Span) → slice_get own (length own - 1) ≡ Some k → slice_get document k ≡ Some (definition.Operation o) → IsLastOf document name o
  last_of k o end stands =
      let test : Definition S → Bool = is_in (operation name) in
      let (j, d, e, there, t) = places_get test 0 document (length (places_from test 0 document) - 1) k end in
      let e' : j ≡ k = omega (arith, e) in
      let same : d ≡ definition.Operation o = same_item d (definition.Operation o) (slice_get document k) (ap (slice_get document) (sym e') ∙ there) stands in
      record {
        named = name_same (operation_name o) name (subst (λ z. test z ≡ true) same t);
        place = k;
        stands = stands;
        last = λ i x here named.
            let c = places_has test 0 document i (definition.Operation x) here (is_operation x name named) in
            let m = contains_get (places_from test 0 document) (0 + i) c in
            let low = places_last test document m.0 (0 + i) k end m.1 in omega (arith, low);
      }

  last_by : (o : Option ℕ) → slice_get own (length own - 1) ≡ o → IsOperationName document name → (last : Spanning (Operation S) Span) × IsLastOf document name last
  last_by None at named = absurd (no_place at named)
  last_by (Some k) at named = let (o, stands) = last_place k at in (o, last_of k o at stands)

  -- where some operation has a name one is the last of it
  pub some_last : IsOperationName document name → (last : Spanning (Operation S) Span) × IsLastOf document name last
  some_last named = last_by (slice_get own (length own - 1)) refl named

pub length_taken : {X : Type 0} (xs : List X) (i : ℕ) → i < length xs → length (take i xs) ≡ i
length_taken xs i l = length-take-le i xs (omega (arith, l))
