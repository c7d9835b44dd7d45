-- When the rule finds nothing. In specs/, since ghost members of an impl cite nothing else.
use Rattle.std.proofs.Common.{◌≡◌, ◌↔◌, ℕ, List, [], ◌∷◌, ◌++◌, Bool, true, false, Option, Some, None, map, sym, ap}
use Rattle.std.proofs.Common.{◌∙◌, refl, subst}
use Rattle.std.specs.Prelude.{cond}
use Rattle.std.specs.List.{All, filter}
use Rattle.std.proofs.lemmas.List.Elements.{All-nil, All-cons, All-head, All-tail}
use Rattle.language_types.specs.Position.{Placed}
use Rattle.language_types.specs.declared.position.SourcePosition.{SourcePosition}
use Rattle.language.specs.declared.tree.Definition.{Definition}
use Rattle.language.specs.declared.tree.Definition.TheVariants as definition
use Rattle.language.specs.declared.tree.Field.{Field}
use Rattle.language.specs.declared.tree.Operation.{Operation}
use Rattle.language.specs.declared.tree.OperationType.{OperationType}
use Rattle.language.specs.declared.tree.OperationType.TheVariants as kind
use Rattle.language.specs.declared.tree.Selection.{Selection}
use Rattle.schema.specs.Catalog.{Catalog}
use Rattle.walk.specs.ErrorValue.{ErrorValue}
use Rattle.walk.specs.Rule.{SilentIff}
use Rattle.rules_document.specs.AtDocument.{given_at_end}
use Rattle.rules_specified.specs.Collected.{Collects, Part, at_end, at_field, at_nothing, at_set, field, inside}
use Rattle.rules_specified.specs.Collected.{nothing, part}
use Rattle.rules_specified.specs.SingleRootField.{AreCollected, IsSingle, IsSingleRoot, SelectOne, SelectsOne, Tells}
use Rattle.rules_specified.specs.SingleRootField.{TellsEach, TellsRoot, at_places, has_other_name, introspections}
use Rattle.rules_specified.specs.SingleRootField.{is_introspection, others, places, response_name, root_errors}
use Rattle.rules_specified.specs.SingleRootField.{root_name, single_root_errors}

-- both parts of an empty list are empty
both_empty : {X : Type 0} (xs ys : List X) → xs ++ ys ≡ [] → (xs ≡ []) × (ys ≡ [])
both_empty [] ys e = (refl, e)
both_empty (x ∷ xs) ys e = cc

empty_with : {X : Type 0} (xs ys : List X) → xs ≡ [] → ys ≡ [] → xs ++ ys ≡ []
empty_with xs ys e h = ap (λ z. z ++ ys) e ∙ h

map_empty : {X Y : Type 0} (f : X → Y) (xs : List X) → (map f xs ≡ []) ↔ (xs ≡ [])
map_empty f [] = (λ e. refl, λ e. refl)
map_empty f (x ∷ xs) = (λ e. cc, λ e. cc)

-- a list without its last test's failures is empty if and only if each fails
module _ {X : Type 0} (p : X → Bool) where
  abbrev Fails : X → Type 0
  Fails x = p x ≡ false

  first_fails : (b : Bool) (x : X) (xs : List X) → cond b (x ∷ xs) xs ≡ [] → (b ≡ false) × (xs ≡ [])
  first_fails true x xs e = cc
  first_fails false x xs e = (refl, e)

  none_pass : (xs : List X) → filter p xs ≡ [] → All Fails xs
  none_pass [] e = All-nil Fails
  none_pass (x ∷ xs) e = let (fails, rest) = first_fails (p x) x (filter p xs) e in All-cons Fails x xs fails (none_pass xs rest)

  filter_none : (xs : List X) → All Fails xs → filter p xs ≡ []
  filter_none [] h = refl
  filter_none (x ∷ xs) h = ap (λ b. cond b (x ∷ filter p xs) (filter p xs)) (All-head Fails x xs h) ∙ filter_none xs (All-tail Fails x xs h)

at_no_place : (text : List ℕ) (ps : List SourcePosition) → (at_places text ps ≡ []) ↔ (ps ≡ [])
at_no_place text [] = (λ e. refl, λ e. refl)
at_no_place text (p ∷ ps) = (λ e. cc, λ e. cc)

module _ {S : Type 0} where
  -- nothing is reported at fields if and only if each fails the test
  silent_at_fields : (text : List ℕ) (p : Placed (Field S) → Bool) (fs : List (Placed (Field S)))
      → (at_places text (places (filter p fs)) ≡ []) ↔ All (λ f. p f ≡ false) fs
  silent_at_fields text p fs =
      let at = at_no_place text (places (filter p fs)) in let mapped = map_empty (λ f. f.span.start) (filter p fs) in (
        λ e. none_pass p fs (mapped.0 (at.0 e)),
        λ h. at.1 (mapped.1 (filter_none p fs h)),
      )

  single_iff : (o : Placed (Operation S)) (fs : List (Placed (Field S))) → (root_errors o fs ≡ []) ↔ IsSingle fs
  single_iff o [] = (λ e. cc, λ h. absurd h)
  single_iff o (f ∷ fs) =
      let names = silent_at_fields _ (has_other_name (response_name f.item)) (f ∷ fs) in
      let inner = silent_at_fields _ (λ g. is_introspection g.item) (f ∷ fs) in (
        λ e. let (a, b) = both_empty _ _ e in (names.0 a, inner.0 b),
        λ (a, b). empty_with _ _ (names.1 a) (inner.1 b),
      )

module _ {S C : Type 0} (truth : S → Option Bool) (schema : Catalog S C) (document : List (Definition S)) where
  module _ (root : List ℕ) where
    abbrev From : List (List ℕ) → List (Selection S) → List (Placed (Field S)) → List (List ℕ) → Type 0
    From = Collects truth schema document root

    from_names : {a b after : List (List ℕ)} {set : List (Selection S)} {fs : List (Placed (Field S))} → a ≡ b
        → From a set fs after → From b set fs after
    from_names {after = after} {set = set} {fs = fs} e c = subst (λ z. From z set fs after) e c

    from_set : {names after : List (List ℕ)} {a b : List (Selection S)} {fs : List (Placed (Field S))} → a ≡ b
        → From names a fs after → From names b fs after
    from_set {names = names} {after = after} {fs = fs} e c = subst (λ z. From names z fs after) e c

    -- the same fields are collected each time
    collects_once : {names : List (List ℕ)} {set : List (Selection S)} {fs gs : List (Placed (Field S))} {after last : List (List ℕ)}
        → From names set fs after → From names set gs last → (fs ≡ gs) × (after ≡ last)
    collects_once at_end at_end = (refl, refl)
    collects_once (at_nothing p c) (at_nothing q d) = collects_once c d
    collects_once (at_nothing p c) (at_field g q d) = cc
    collects_once (at_nothing p c) (at_set inner opened mid first rest q d e is) = cc
    collects_once (at_field f p c) (at_nothing q d) = cc
    collects_once (at_field f p c) (at_field g q d) = let (same, left) = collects_once c d in (cc, left)
    collects_once (at_field f p c) (at_set inner opened mid first rest q d e is) = cc
    collects_once (at_set inner opened mid first rest p c b is) (at_nothing q d) = cc
    collects_once (at_set inner opened mid first rest p c b is) (at_field g q d) = cc
    collects_once (at_set inner opened mid first rest p c b is) (at_set inner' opened' mid' first' rest' q d e is') =
        let to_set : inner' ≡ inner = cc in
        let to_opened : opened' ≡ opened = cc in
        let (firsts, mids) = collects_once c (from_set to_set (from_names to_opened d)) in
        let (rests, left) = collects_once b (from_names (sym mids) e) in
        (cc, left)

  root_silent : (root : Option (List ℕ)) (k : OperationType) (o : Placed (Operation S)) (es : List ErrorValue)
      → TellsRoot truth schema document root k o es → (es ≡ []) ↔ IsSingleRoot truth schema document root k o
  root_silent (Some root) kind.Subscription o es (fs, (after, collected), is) = let single = single_iff o fs in (
    λ e. (fs, (after, collected), single.0 (sym is ∙ e)),
    λ (gs, (left, again), holds). is ∙ single.1 (subst IsSingle (collects_once root again collected).0 holds),
  )
  root_silent (Some root) kind.Query o es e = (λ h. tt, λ u. e)
  root_silent (Some root) kind.Mutation o es e = (λ h. tt, λ u. e)
  root_silent None k o es e = (λ h. tt, λ u. e)

  silent_of : (d : Definition S) (es : List ErrorValue) → Tells truth schema document d es → (es ≡ []) ↔ SelectsOne truth schema document d
  silent_of (definition.Operation o) es tells = root_silent (root_name schema) o.item.operation_type o es tells
  silent_of (definition.Fragment f) es tells = (λ e. tt, λ u. tells)

  silent_of_each : (ds : List (Definition S)) (es : List ErrorValue) → TellsEach truth schema document ds es → (es ≡ [])
      ↔ All (SelectsOne truth schema document) ds
  silent_of_each [] es is = (λ e. All-nil (SelectsOne truth schema document), λ h. is)
  silent_of_each (d ∷ ds) es (first, rest, tells, more, is) =
      let one = silent_of d first tells in
      let each = silent_of_each ds rest more in (
        λ e. let (a, b) = both_empty first rest (sym is ∙ e) in All-cons (SelectsOne truth schema document) d ds (one.0 a) (each.0 b),
        λ h. is ∙ empty_with first rest (one.1 (All-head (SelectsOne truth schema document) d ds h))
            (each.1 (All-tail (SelectsOne truth schema document) d ds h)),
      )

-- nothing may be reported if and only if each subscription selects exactly one field at its root
pub single_root_silent : {S C V : Type 0} (truth : S → Option Bool)
    → SilentIff {S = S} {C = C} {V = V} (given_at_end (single_root_errors truth)) (λ scope t doc. SelectOne truth scope doc)
single_root_silent truth end scope t doc es h = silent_of_each truth scope.schema doc doc es h
