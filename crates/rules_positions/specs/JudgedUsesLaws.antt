-- When the uses of a document give nothing. In specs/, since the laws of the rules cite it.
use Rattle.std.proofs.Common.{◌≡◌, ◌↔◌, ℕ, suc, zero, List, [], ◌∷◌, ◌++◌, Option, None, Some, map, slice_get, Contains}
use Rattle.std.proofs.Common.{refl, ap, sym, ◌∙◌, subst, arith}
use Rattle.std.specs.Option.{unwrap_or}
use Rattle.language.specs.declared.tree.Definition.{Definition}
use Rattle.language.specs.declared.tree.VariableDefinition.{VariableDefinition}
use Rattle.fragment_graph.proofs.Lists.{contains_at, contains_get, get_some}
use Rattle.fragment_graph.proofs.NamePaths.{get_map}
use Rattle.fragment_reach.specs.Reach.{Reach}
use Rattle.meta.specs.declared.kinds.MetaTypeOf.{MetaTypeOf}
use Rattle.events.specs.Node.{VariableEntry}
use Rattle.walk.specs.Entering.{EachGives}
use Rattle.walk.specs.ErrorValue.{ErrorValue}
use Rattle.operation_scopes.specs.Scopes.{IsOperationName, scope_of}
use Rattle.rules_positions.specs.DefinedVariables.{first_of, variables_of}
use Rattle.rules_positions.specs.JudgedUses.{DocumentGives, JudgedIfDefined, Judgement, OperationsGive, UsesGive}
use Rattle.rules_positions.specs.JudgedUses.{uses_in}

left_none : {X : Type 0} (xs ys : List X) → xs ++ ys ≡ [] → xs ≡ []
left_none [] ys e = refl
left_none (x ∷ xs) ys e = cc

-- where all together give nothing each gives nothing
each_none : {O R : Type 0} (gives : O → List R → Type 0) (os : List O) → EachGives gives os [] → (o : O) → Contains os o → gives o []
each_none gives [] h o (k, l, at) = absurd (omega (arith, l))
each_none {O} {R} gives (x ∷ os) (first, rest, p, ps, e) o (zero, l, at) =
    subst (λ z. gives z []) at (subst (gives x) (left_none first rest (sym e)) p)
each_none {O} {R} gives (x ∷ os) (first, rest, p, ps, e) o (suc k, l, at) =
    let no_rest : rest ≡ [] = ap (λ z. z ++ rest) (sym (left_none first rest (sym e))) ∙ sym e in
    each_none gives os (subst (EachGives gives os) no_rest ps) o (k, omega (arith, l), at)

-- and where each gives nothing all together give nothing
each_silent : {O R : Type 0} (gives : O → List R → Type 0) (os : List O) (es : List R)
    → ((o : O) → Contains os o → (fs : List R) → gives o fs → fs ≡ []) → EachGives gives os es → es ≡ []
each_silent gives [] es h p = p
each_silent gives (x ∷ os) es h (first, rest, p, ps, e) =
    e ∙ ap (λ z. z ++ rest) (h x (0, omega arith, refl) first p) ∙ each_silent gives os rest
    (λ o c. h o (suc c.0, (let l = c.1 in omega (arith, l)), c.2)) ps

-- whether a variable may stand where it is used, by the types of the schema and the definition of the variable
abbrev pub Permission : Type 0 → Type 0 → Type 0 → Type 1
Permission S C U = List (MetaTypeOf S C) → VariableDefinition S → U → Type 0

-- a judgement gives nothing if and only if the variable may stand there
abbrev pub GivesUnless : {S C U : Type 0} → Permission S C U → Judgement S C U → Type 0
GivesUnless {S} {C} {U} IsAllowed judged =
    (types : List (MetaTypeOf S C)) (d : VariableEntry S) (u : U) (es : List ErrorValue) → judged types d u es
    → (es ≡ []) ↔ IsAllowed types d.1 u

module _ {S C U : Type 0} (variable_of : U → List ℕ) (judged : Judgement S C U) (IsAllowed : Permission S C U)
    (types : List (MetaTypeOf S C)) (document : List (Definition S)) (uses_of : Definition S → List U) where
  -- in each definition that the operations of a name reach: a variable that they define may stand where it is used
  abbrev pub UsesAllowed : Type 0
  UsesAllowed =
      (name : Option (List ℕ)) (d : Definition S) (u : U) (v : VariableEntry S)
      → IsOperationName document name → Contains document d → Reach document name (scope_of d) → Contains (uses_of d) u
      → first_of (variables_of document name) (variable_of u) ≡ Some v → IsAllowed types v.1 u

  module _ (law : GivesUnless IsAllowed judged) where
    abbrev uses : List (List U)
    uses = map uses_of document

    abbrev known : Option (List ℕ) → List ℕ → Option (VariableEntry S)
    known name = first_of (variables_of document name)

    none_if : (o : Option (VariableEntry S)) (u : U) (es : List ErrorValue) → JudgedIfDefined judged types o u es
        → ((v : VariableEntry S) → o ≡ Some v → IsAllowed types v.1 u) → es ≡ []
    none_if None u es p h = p
    none_if (Some v) u es p h = (law types v u es p).1 (h v refl)

    own_uses : (k : ℕ) (d : Definition S) → slice_get document k ≡ Some d → uses_in uses k ≡ uses_of d
    own_uses k d at = ap (λ o. unwrap_or o []) (get_map uses_of document k d at)

    all_allowed : (es : List ErrorValue) → DocumentGives variable_of judged types document uses es → es ≡ [] → UsesAllowed
    all_allowed es (names, on, told) e name d u v named stands reached used is =
        let gives = OperationsGive variable_of judged types document uses in
        let (places, reach, given) = each_none gives names (subst (EachGives gives names) e told) name ((on.are name).1 named) in
        let k = contains_get document d stands in
        let here = each_none (λ place fs. UsesGive variable_of judged types (known name) (uses_in uses place) fs) places
        given k.0 ((reach.reached k.0 d k.1).1 reached) in
        let one = each_none (λ w gs. JudgedIfDefined judged types (known name (variable_of w)) w gs)
        (uses_in uses k.0) here u (subst (λ zs. Contains zs u) (sym (own_uses k.0 d k.1)) used) in
        (law types v u [] (subst (λ z. JudgedIfDefined judged types z u []) is one)).0 refl

    none_misplaced : (es : List ErrorValue) → DocumentGives variable_of judged types document uses es → UsesAllowed → es ≡ []
    none_misplaced es (names, on, told) all =
        each_silent (OperationsGive variable_of judged types document uses) names es
        (λ name c fs (places, reach, given).
        each_silent (λ place gs. UsesGive variable_of judged types (known name) (uses_in uses place) gs) places fs
        (λ k listed gs here.
        let (d, at) = get_some document k (reach.within k listed) in
        each_silent (λ u hs. JudgedIfDefined judged types (known name (variable_of u)) u hs) (uses_in uses k) gs
        (λ u used hs one.
        none_if (known name (variable_of u)) u hs one
        (λ v is. all name d u v ((on.are name).0 c) (contains_at document k d at) ((reach.reached k d at).0 listed)
        (subst (λ zs. Contains zs u) (own_uses k d at) used) is))
        here)
        given)
        told

    -- nothing is given if and only if each variable may stand where it is used
    pub uses_silent : (es : List ErrorValue) → DocumentGives variable_of judged types document uses es → (es ≡ []) ↔ UsesAllowed
    uses_silent es p = (all_allowed es p, none_misplaced es p)
