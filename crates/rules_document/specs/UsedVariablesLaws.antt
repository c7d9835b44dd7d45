-- No variable is undefined if and only if all are defined, and none is unused if and only if all are used. In specs/,
-- since ghost members of an impl cite nothing else.
use Rattle.std.proofs.Common.{◌≡◌, ◌↔◌, ℕ, List, [], ◌∷◌, ◌++◌, map, refl, sym, subst, ap, ◌∙◌, arith, zero, suc, Bool}
use Rattle.std.proofs.Common.{true, false, ◌||◌, Option, Some, None, slice_get}
use Rattle.std.specs.Prelude.{if◌then◌else◌}
use Rattle.std.specs.List.{Contains, flat_map}
use Rattle.std.specs.Option.{option_map_or}
use Rattle.std.proofs.lemmas.Slice.Eq.{bytes_eq-Decides}
use Rattle.std.specs.Str.{bytes_eq}
use Rattle.language_types.specs.Names.{is_among}
use Rattle.language_types.specs.Position.{Placed}
use Rattle.language.specs.declared.tree.Definition.{Definition}
use Rattle.language.specs.declared.tree.Definition.TheVariants as definition
use Rattle.language.specs.declared.tree.Operation.{Operation}
use Rattle.events.specs.Node.{VariableEntry}
use Rattle.fragment_graph.proofs.Lists.{none_some, same_some, same_item, get_some, contains_at, contains_get}
use Rattle.fragment_graph.proofs.Lists.{contains_none}
use Rattle.fragment_graph.proofs.NamePaths.{flat_get, get_map, map_get}
use Rattle.fragment_reach.proofs.Reaching.{contains_flat}
use Rattle.operation_scopes.specs.Scopes.{IsLastOf, OperationNames}
use Rattle.operation_scopes.specs.Searches.{inside}
use Rattle.variable_usages.specs.InReachUses.{InTurn, UsedIn}
use Rattle.variable_usages.specs.Names.{NameAndSpan, defined_names, defined_variables, variable_list}
use Rattle.variable_usages.specs.Undefined.{Undefined, UndefinedIn, UndefinedVariables, told_undefined}
use Rattle.variable_usages.specs.Unused.{Unused, UnusedIn, UnusedVariables, unused_by}
use Rattle.variable_usages.specs.Uses.{Use, Uses, definition_uses}
use Rattle.rules_document.specs.UsedVariables.{IsUsed, AllDefined, AllUsed}

left_none : {X : Type 0} (xs ys : List X) → xs ++ ys ≡ [] → xs ≡ []
left_none [] ys e = refl
left_none (x ∷ xs) ys e = cc

right_none : {X : Type 0} (xs ys : List X) → xs ++ ys ≡ [] → ys ≡ []
right_none [] ys e = e
right_none (x ∷ xs) ys e = cc

no_member : {X : Type 0} (xs : List X) → ((x : X) → Contains xs x → ⊥) → xs ≡ []
no_member [] h = refl
no_member (x ∷ xs) h = absurd (h x (contains_at (x ∷ xs) 0 x refl))

later : {X : Type 0} (x : X) (xs : List X) (a : X) → Contains xs a → Contains (x ∷ xs) a
later x xs a c = let g = contains_get xs a c in contains_at (x ∷ xs) (suc g.0) a g.1

module _ {X Y : Type 0} (gives : X → List Y → Type 0) where
  none_each : (xs : List X) → InTurn gives xs [] → (i : ℕ) (x : X) → slice_get xs i ≡ Some x → gives x []
  none_each [] t i x h = absurd (none_some x h)
  none_each (z ∷ xs) (part, rest, g, t, e) zero x h =
      subst (λ a. gives a []) (same_some z x h) (subst (gives z) (left_none part rest (sym e)) g)
  none_each (z ∷ xs) (part, rest, g, t, e) (suc i) x h = none_each xs (subst (InTurn gives xs) (right_none part rest (sym e)) t) i x h

  none_all : (xs : List X) (ys : List Y) → ((x : X) (part : List Y) → gives x part → part ≡ []) → InTurn gives xs ys → ys ≡ []
  none_all [] ys h t = t
  none_all (x ∷ xs) ys h (part, rest, g, t, e) = e ∙ ap (λ z. z ++ rest) (h x part g) ∙ none_all xs rest h t

flat_none : {X Y : Type 0} (f : X → List Y) (xs : List X) (i : ℕ) (x : X) → flat_map f xs ≡ [] → slice_get xs i ≡ Some x → f x ≡ []
flat_none f [] i x e h = absurd (none_some x h)
flat_none f (z ∷ xs) zero x e h = ap f (sym (same_some z x h)) ∙ left_none (f z) (flat_map f xs) e
flat_none f (z ∷ xs) (suc i) x e h = flat_none f xs i x (right_none (f z) (flat_map f xs) e) h

none_flat : {X Y : Type 0} (f : X → List Y) (xs : List X) → ((x : X) → Contains xs x → f x ≡ []) → flat_map f xs ≡ []
none_flat f [] h = refl
none_flat f (x ∷ xs) h = ap (λ z. z ++ flat_map f xs) (h x (contains_at (x ∷ xs) 0 x refl)) ∙ none_flat f xs (λ a c. h a (later x xs a c))

mapped_none : {X Y : Type 0} (f : X → Y) (xs : List X) → map f xs ≡ [] → xs ≡ []
mapped_none f [] e = refl
mapped_none f (x ∷ xs) e = cc

mapped : {X Y : Type 0} (f : X → Y) (xs : List X) (x : X) (y : Y) → f x ≡ y → Contains xs x → Contains (map f xs) y
mapped f xs x y e c = let g = contains_get xs x c in contains_at (map f xs) g.0 y (get_map f xs g.0 x g.1 ∙ ap Some e)

some_or : (a b : Bool) → a ≡ true → (a || b) ≡ true
some_or true b e = refl
some_or false b e = cc

or_some : (a b : Bool) → b ≡ true → (a || b) ≡ true
or_some true b e = refl
or_some false b e = e

among_at : (names : List (List ℕ)) (k : ℕ) (name : List ℕ) → slice_get names k ≡ Some name → is_among names name ≡ true
among_at [] k name h = absurd (none_some name h)
among_at (n ∷ names) zero name h = some_or (bytes_eq n name) (is_among names name) ((bytes_eq-Decides n name).1 (same_some n name h))
among_at (n ∷ names) (suc k) name h = or_some (bytes_eq n name) (is_among names name) (among_at names k name h)

module _ (name : List ℕ) where
  -- by whether the first is the name
  first_or : (n : List ℕ) (names : List (List ℕ)) (b : Bool) → bytes_eq n name ≡ b → (b || is_among names name) ≡ true
      → (is_among names name ≡ true → Contains names name) → Contains (n ∷ names) name
  first_or n names true e h rest = contains_at (n ∷ names) 0 name (ap Some ((bytes_eq-Decides n name).0 e))
  first_or n names false e h rest = later n names name (rest h)

  among_has : (names : List (List ℕ)) → is_among names name ≡ true → Contains names name
  among_has [] h = absurd cc
  among_has (n ∷ names) h = first_or n names (bytes_eq n name) refl h (among_has names)

  has_among : (names : List (List ℕ)) → Contains names name → is_among names name ≡ true
  has_among names c = let g = contains_get names name c in among_at names g.0 name g.1

true_false : {b : Bool} → b ≡ true → b ≡ false → ⊥
true_false e f = cc

unless_true : {X : Type 0} (test : Bool) (x : X) → (if test then [] else x ∷ []) ≡ [] → test ≡ true
unless_true true x e = refl
unless_true false x e = absurd cc

true_unless : {X : Type 0} (test : Bool) (x : X) → test ≡ true → (if test then [] else x ∷ []) ≡ []
true_unless true x e = refl
true_unless false x e = absurd cc

module _ {S : Type 0} (document : List (Definition S)) (name : Option (List ℕ)) where
  -- there is one last operation
  one_last : (a b : Placed (Operation S)) → IsLastOf document name a → IsLastOf document name b → a ≡ b
  one_last a b p q =
      let low = p.last q.place b q.stands q.named in
      let high = q.last p.place a p.stands p.named in
      let e : p.place ≡ q.place = omega (arith, low, high) in
      let same = same_item (definition.Operation a) (definition.Operation b) (slice_get document q.place)
      (ap (slice_get document) (sym e) ∙ p.stands) q.stands in
      cc

  module _ (uses : Uses) (used : UsedIn document name uses) where
    -- the variables of the uses are those that the operations use
    used_has : (variable : List ℕ) → IsUsed document name variable → Contains (map (λ u. u.name) uses) variable
    used_has variable (d, stands, reached, c) =
        let (places, reach, is) = used in
        let k = contains_get document d stands in
        let p = contains_get places k.0 ((reach.reached k.0 d k.1).1 reached) in
        let g = contains_get (map (λ (u : Use). u.name) (definition_uses d)) variable c in
        let (u, at, e) = map_get (λ (u : Use). u.name) (definition_uses d) g.0 variable g.1 in
        let here : slice_get (inside definition_uses document k.0) g.0 ≡ Some u =
        subst (λ o. slice_get (option_map_or definition_uses o []) g.0 ≡ Some u) (sym k.1) at in
        let found = contains_flat (inside definition_uses document) places p.0 k.0 g.0 u p.1 here in
        mapped (λ (u : Use). u.name) uses u variable e (subst (λ zs. Contains zs u) (sym is) found)

    has_used : (variable : List ℕ) → Contains (map (λ u. u.name) uses) variable → IsUsed document name variable
    has_used variable c =
        let (places, reach, is) = used in
        let g = contains_get (map (λ (u : Use). u.name) uses) variable c in
        let (u, at, e) = map_get (λ (u : Use). u.name) uses g.0 variable g.1 in
        let (k, (i, listed), (j, here)) = flat_get (inside definition_uses document) places g.0 u
        (subst (λ zs. slice_get zs g.0 ≡ Some u) is at) in
        let there = contains_at places i k listed in
        let (d, stands) = get_some document k (reach.within k there) in
        let own : slice_get (definition_uses d) j ≡ Some u =
        subst (λ o. slice_get (option_map_or definition_uses o []) j ≡ Some u) stands here in (
          d,
          contains_at document k d stands,
          (reach.reached k d stands).0 there,
          mapped (λ (u : Use). u.name) (definition_uses d) u variable e (contains_at (definition_uses d) j u own),
        )

  defined_of : (a : UndefinedIn document name []) (last : Placed (Operation S)) (variable : List ℕ)
      → IsLastOf document name last → IsUsed document name variable → Contains (defined_names last) variable
  defined_of a last variable is_last used =
      let g = contains_get (map (λ (u : Use). u.name) a.uses) variable (used_has a.uses a.used variable used) in
      let (u, at, e) = map_get (λ (u : Use). u.name) a.uses g.0 variable g.1 in
      let tells : Use → List Undefined = told_undefined (is_among (defined_names a.last)) name a.last.span.start in
      let none : tells u ≡ [] = flat_none tells a.uses g.0 u (sym a.told) at in
      let defined = among_has u.name (defined_names a.last) (unless_true (is_among (defined_names a.last) u.name) _ none) in
      subst (λ o. Contains (defined_names o) variable) (one_last a.last last a.is_last is_last)
      (subst (Contains (defined_names a.last)) e defined)

  none_undefined : AllDefined document → (part : List Undefined) → UndefinedIn document name part → part ≡ []
  none_undefined all part b =
      b.told
      ∙ none_flat (told_undefined (is_among (defined_names b.last)) name b.last.span.start) b.uses (λ u c.
      let used = has_used b.uses b.used u.name (mapped (λ (v : Use). v.name) b.uses u u.name refl c) in
      true_unless (is_among (defined_names b.last) u.name) _
      (has_among u.name (defined_names b.last) (all name b.last u.name b.is_last used)))

  -- a name that is defined stands at some span
  with_span : (o : Placed (Operation S)) (variable : List ℕ) → Contains (defined_names o) variable → (v : NameAndSpan)
      × Contains (defined_variables o) v × (v.0 ≡ variable)
  with_span o variable c =
      let g = contains_get (defined_names o) variable c in
      let (x, at, e) = map_get (λ (x : VariableEntry S). x.0.item.now) (variable_list o) g.0 variable g.1 in (
        (x.0.item.now, x.0.span),
        mapped (λ (y : VariableEntry S). (y.0.item.now, y.0.span)) (variable_list o) x
            (x.0.item.now, x.0.span) refl (contains_at (variable_list o) g.0 x at),
        e,
      )

  without_span : (o : Placed (Operation S)) (v : NameAndSpan) → Contains (defined_variables o) v → Contains (defined_names o) v.0
  without_span o v c =
      let g = contains_get (defined_variables o) v c in
      let (x, at, e) = map_get (λ (x : VariableEntry S). (x.0.item.now, x.0.span)) (variable_list o) g.0 v g.1 in
      mapped (λ (y : VariableEntry S). y.0.item.now) (variable_list o) x v.0 (ap (λ z. z.0) e) (contains_at (variable_list o) g.0 x at)

  used_by : (b : Bool) (names : List (List ℕ)) (variable : List ℕ) → is_among names variable ≡ b → (b ≡ false → ⊥) → Contains names variable
  used_by true names variable e h = among_has variable names e
  used_by false names variable e h = absurd (h refl)

  used_of : (a : UnusedIn document name []) (last : Placed (Operation S)) (variable : List ℕ)
      → IsLastOf document name last → Contains (defined_names last) variable → IsUsed document name variable
  used_of a last variable is_last c =
      let (v, stands, e) = with_span a.last variable
      (subst (λ o. Contains (defined_names o) variable) (one_last last a.last is_last a.is_last) c) in
      let names : List (List ℕ) = map (λ (u : Use). u.name) a.uses in
      let none = mapped_none (unused_by name) a.variables (sym a.told) in
      let has = used_by (is_among names v.0) names v.0 refl
      (λ free. contains_none v (subst (λ zs. Contains zs v) none ((a.unused.are v).1 (stands, free)))) in
      subst (IsUsed document name) e (has_used a.uses a.used v.0 has)

  none_unused : AllUsed document → (part : List Unused) → UnusedIn document name part → part ≡ []
  none_unused all part b =
      b.told
      ∙ ap (map (unused_by name)) (no_member b.variables (λ v c.
      let (stands, free) = (b.unused.are v).0 c in
      let has = used_has b.uses b.used v.0 (all name b.last v.0 b.is_last (without_span b.last v stands)) in
      true_false (has_among v.0 (map (λ (u : Use). u.name) b.uses) has) free))

module _ {S : Type 0} (document : List (Definition S)) where
  name_at : (names : List (Option (List ℕ))) → OperationNames document names
      → (name : Option (List ℕ)) (last : Placed (Operation S)) → IsLastOf document name last → (k : ℕ)
      × (slice_get names k ≡ Some name)
  name_at names are name last is_last =
      contains_get names name ((are.are name).1
      (last, contains_at document is_last.place (definition.Operation last) is_last.stands, is_last.named))

  pub undefined_none : (found : List Undefined) → UndefinedVariables document found → (found ≡ []) ↔ AllDefined document
  undefined_none found (names, are, told) = (
    λ e. λ name last variable is_last used.
        let g = name_at names are name last is_last in
        defined_of document name (none_each (UndefinedIn document) names
        (subst (InTurn (UndefinedIn document) names) e told) g.0 name g.1) last variable is_last used,
    λ all. none_all (UndefinedIn document) names found (λ name part given. none_undefined document name all part given) told,
  )

  pub unused_none : (found : List Unused) → UnusedVariables document found → (found ≡ []) ↔ AllUsed document
  unused_none found (names, are, told) = (
    λ e. λ name last variable is_last defined.
        let g = name_at names are name last is_last in
        used_of document name (none_each (UnusedIn document) names
        (subst (InTurn (UnusedIn document) names) e told) g.0 name g.1) last variable is_last defined,
    λ all. none_all (UnusedIn document) names found (λ name part given. none_unused document name all part given) told,
  )
