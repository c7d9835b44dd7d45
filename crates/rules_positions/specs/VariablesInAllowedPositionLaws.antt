-- What the rule reports, and when that is nothing. In specs/, since ghost members of an impl cite nothing else.
use Rattle.std.proofs.Common.{◌≡◌, ℕ, suc, zero, List, [], ◌∷◌, Option, None, Some, inl, inr, slice_get, refl, ap, sym}
use Rattle.std.proofs.Common.{◌∙◌, subst}
use Rattle.language.specs.declared.tree.Definition.{Definition}
use Rattle.language_types.specs.Types.{TypeShape}
use Rattle.fragment_graph.proofs.Lists.{contains_at, contains_get, none_some, same_some}
use Rattle.fragment_graph.proofs.NamePaths.{flat_get}
use Rattle.fragment_reach.proofs.Reaching.{contains_flat}
use Rattle.schema.specs.Subtype.{IsSubtype}
use Rattle.events.specs.Occurrence.{occurrences_in}
use Rattle.events.specs.Typing.{Typing}
use Rattle.events.specs.Node.{Node, Placed, variable_value}
use Rattle.walk.specs.ContextState.{DocumentScope, scope_of}
use Rattle.walk.specs.Rule.{AllowsFrom, SilentIff, always}
use Rattle.rules_positions.specs.AllowedPositions.{AllAllowed}
use Rattle.rules_positions.specs.DefinedVariables.{first_of, variables_of}
use Rattle.rules_positions.specs.JudgedUsesLaws.{GivesUnless, UsesAllowed, uses_silent}
use Rattle.rules_positions.specs.Recording.{recording_step}
use Rattle.rules_positions.specs.RecordingLaws.{recording_keeps}
use Rattle.rules_positions.specs.TypedUses.{UseValue, next_uses, typed_uses, use_at, uses_at}
use Rattle.rules_positions.specs.UsesRecorded.{uses_recorded}
use Rattle.rules_positions.specs.VariablesInAllowedPosition.{DocumentGives, Judged, given_by_uses, misplaced_variables}
use Rattle.rules_positions.specs.VariablesInAllowedPosition.{recorded_uses, type_in_use}

some_none : {X : Type 0} (x : X) (xs : List X) → [] ≡ x ∷ xs → ⊥
some_none x xs e = cc

-- a use gives nothing if and only if the variable's type is a subtype of the expected one
gives_unless_subtype : {S C : Type 0} → GivesUnless {S = S} {C = C}
    (λ types d (u : UseValue). IsSubtype types (type_in_use d) u.expected) Judged
gives_unless_subtype types d u es (inl a) = (λ e. a.0, λ below. a.1)
gives_unless_subtype types d u es (inr b) = (λ e. absurd (some_none _ _ (sym e ∙ b.1)), λ below. absurd (b.0 below))

module _ {S : Type 0} where
  -- a use stands at a variable where a type is expected
  stands_at : (n : Node S) (t : Option TypeShape) (j : ℕ) (u : UseValue) → slice_get (use_at n t) j ≡ Some u
      → (x : Placed (List ℕ)) × (n ≡ variable_value x) × (t ≡ Some u.expected) × (x.item ≡ u.variable)
  stands_at (variable_value x) (Some t) zero u h =
      (x, refl, ap (λ (w : UseValue). Some w.expected) (same_some _ u h), ap (λ (w : UseValue). w.variable) (same_some _ u h))
  stands_at (variable_value x) (Some t) (suc j) u h = absurd (none_some u h)
  stands_at (variable_value x) None j u h = absurd (none_some u h)
  stands_at _ t j u h = absurd (none_some u h)

module _ {S C : Type 0} (scope : DocumentScope S C) (t : Typing S C) (document : List (Definition S)) where
  -- each use may stand where it does
  abbrev AllUses : Type 0
  AllUses =
      UsesAllowed {C = C} (λ (u : UseValue). u.variable) Judged
      (λ types d u. IsSubtype types (type_in_use d) u.expected) scope.schema.types document
      (typed_uses scope.schema t)

  all_allowed : AllUses → AllAllowed scope t document
  all_allowed all name d o x expected v named stands reached there node input is =
      let u : UseValue = record { variable = x.item; place = x.span.start; expected = expected } in
      let one : slice_get (use_at o.node o.types.input) 0 ≡ Some u =
      subst (λ n. slice_get (use_at n o.types.input) 0 ≡ Some u) (sym node)
      (subst (λ z. slice_get (use_at {S = S} (variable_value x) z) 0 ≡ Some u) (sym input) refl) in
      let i = contains_get (occurrences_in scope.schema t d) o there in
      all name d u v named stands reached (contains_flat (uses_at scope.schema) (occurrences_in scope.schema t d) i.0 o 0 u i.1 one) is

  all_uses : AllAllowed scope t document → AllUses
  all_uses all name d u v named stands reached used is =
      let g = contains_get (typed_uses scope.schema t d) u used in
      let (o, (i, there), (j, one)) = flat_get (uses_at scope.schema) (occurrences_in scope.schema t d) g.0 u g.1 in
      let (x, node, input, same) = stands_at o.node o.types.input j u one in
      all name d o x u.expected v named stands reached (contains_at (occurrences_in scope.schema t d) i o there) node input
      (ap (first_of (variables_of document name)) same ∙ is)

-- nothing is reported if and only if each variable stands where it is allowed
pub positions_silent : {S C V : Type 0} → SilentIff {S = S} {C = C} {V = V} (always misplaced_variables) AllAllowed
positions_silent end scope t document es p =
    let law = uses_silent (λ (u : UseValue). u.variable) Judged
    (λ types d u. IsSubtype types (type_in_use d) u.expected) scope.schema.types document
    (typed_uses scope.schema t) gives_unless_subtype es p in
    (λ e. all_allowed scope t document (law.0 e), λ all. law.1 (all_uses scope t document all))

-- each run from a fresh value reports what is given of the document
pub positions_keep : {S C : Type 0} → AllowsFrom
    (recording_step recorded_uses (next_uses {S = S} {C = C}) given_by_uses) (λ a. recorded_uses a ≡ [])
    (always misplaced_variables)
positions_keep start fresh schema t doc end es r =
    subst (λ uses. DocumentGives schema.types doc uses es) (uses_recorded uses_at (scope_of schema doc) t doc)
    (recording_keeps recorded_uses next_uses given_by_uses [] start fresh schema t doc end es r)
