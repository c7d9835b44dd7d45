-- When the rule finds nothing at a node. In specs/, since ghost members of an impl cite nothing else.
use Rattle.std.proofs.Common.{◌≡◌, ◌↔◌, ℕ, List, [], ◌∷◌, refl}
use Rattle.std.specs.Prelude.{Bool, true, false, not, ◌&&◌, Option, Some, None, string_bytes, if◌then◌else◌}
use Rattle.language_types.specs.declared.position.SourcePosition.{SourcePosition}
use Rattle.language.specs.declared.tree.Arguments.{Arguments}
use Rattle.meta.specs.declared.arguments.Argument.{Argument}
use Rattle.meta.specs.declared.kinds.MetaTypeOf.{MetaTypeOf}
use Rattle.schema.specs.Catalog.{Catalog}
use Rattle.walk.specs.ContextState.{DocumentScope}
use Rattle.events.specs.Node.{Node, Placed, field, directive}
use Rattle.events.specs.Occurrence.{Occurrence}
use Rattle.events.specs.SchemaView.{field_arguments, directive_arguments}
use Rattle.rules_support.specs.FoundLaws.{none_among}
use Rattle.rules_arguments.specs.ProvidedNonNullArguments.{on_field, on_directive, required_on_field}
use Rattle.rules_arguments.specs.ProvidedNonNullArguments.{required_on_directive, is_given, missing_argument}
use Rattle.rules_arguments.specs.ProvidedNonNullArguments.{missing_where_known, missing_at, missing_arguments, AreGiven}
use Rattle.rules_arguments.specs.ProvidedNonNullArguments.{HasRequired}

none_lacking : {R : Type 0} (required given : Bool) (r : R) → ((if required && not given then r ∷ [] else []) ≡ [])
    ↔ (required ≡ true → given ≡ true)
none_lacking true true r = (λ e. λ is. refl, λ h. refl)
none_lacking true false r = (λ e. absurd cc, λ h. absurd (let bad = h refl in cc))
none_lacking false given r = (λ e. λ is. absurd cc, λ h. refl)

module _ {S : Type 0} where
  none_missing_of : (required : Argument S → Bool) (words : List ℕ) (place : SourcePosition)
      (known : Option (List (Argument S))) (written : Option (Placed (Arguments S)))
      → (missing_where_known required words place known written ≡ []) ↔ AreGiven required known written
  none_missing_of required words place None written = (λ e. tt, λ u. refl)
  none_missing_of required words place (Some known) written =
      none_among (missing_argument required words place written) (λ a. required a ≡ true → is_given written (string_bytes a.name) ≡ true)
      (λ a. none_lacking (required a) (is_given written (string_bytes a.name)) _) known

module _ {S C : Type 0} where
  none_at : (schema : Catalog S C) (parent : Option (MetaTypeOf S C)) (n : Node S) → (missing_at schema parent n ≡ [])
      ↔ HasRequired schema parent n
  none_at schema parent (field f) =
      none_missing_of required_on_field (on_field f.item.name.item.now) f.span.start
      (field_arguments parent f.item.name.item.now) f.item.arguments
  none_at schema parent (directive d) =
      none_missing_of required_on_directive (on_directive d.item.name.item.now) d.span.start
      (directive_arguments schema d.item.name.item.now) d.item.arguments
  none_at schema parent _ = (λ e. tt, λ u. refl)

-- nothing is found at an occurrence if and only if the required arguments there are given
pub none_missing : {S C : Type 0} (scope : DocumentScope S C) (o : Occurrence S C) → (missing_arguments scope o ≡ [])
    ↔ HasRequired scope.schema o.types.parent o.node
none_missing scope o = none_at scope.schema o.types.parent o.node
