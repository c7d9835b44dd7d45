-- When the rule finds nothing at a node. In specs/, since ghost members of an impl cite nothing else.
use Rattle.std.proofs.Common.{◌≡◌, ◌↔◌, ℕ, List, [], refl}
use Rattle.std.specs.Prelude.{true, Option, Some, None}
use Rattle.language.specs.declared.tree.Arguments.{Arguments}
use Rattle.meta.specs.declared.arguments.Argument.{Argument}
use Rattle.meta.specs.declared.kinds.MetaTypeOf.{MetaTypeOf}
use Rattle.schema.specs.Catalog.{Catalog}
use Rattle.walk.specs.ContextState.{DocumentScope}
use Rattle.events.specs.Node.{Node, Placed, field, directive}
use Rattle.events.specs.Occurrence.{Occurrence}
use Rattle.events.specs.SchemaView.{directive_arguments}
use Rattle.rules_support.specs.FoundLaws.{none_among, none_unless}
use Rattle.rules_arguments.specs.Bearers.{name_of_known}
use Rattle.rules_arguments.specs.KnownArgumentNames.{is_known, known_on_field, unknown_argument, unknown_arguments}
use Rattle.rules_arguments.specs.KnownArgumentNames.{unknown_at, unknown_on_directive_message, unknown_on_field_message}
use Rattle.rules_arguments.specs.KnownArgumentNames.{unknown_where_known, AreKnown, HasKnown}

module _ {S : Type 0} (message : List ℕ → List ℕ) where
  none_unknown_of : (known : Option (List (Argument S))) (written : Option (Placed (Arguments S)))
      → (unknown_where_known message known written ≡ []) ↔ AreKnown known written
  none_unknown_of None written = (λ e. tt, λ u. refl)
  none_unknown_of (Some known) None = (λ e. tt, λ u. refl)
  none_unknown_of (Some known) (Some written) =
      none_among (unknown_argument message known) (λ a. is_known known a.0.item.now ≡ true)
      (λ a. none_unless (is_known known a.0.item.now) _) written.item.items.items

module _ {S C : Type 0} where
  none_at : (schema : Catalog S C) (parent : Option (MetaTypeOf S C)) (n : Node S) → (unknown_at schema parent n ≡ [])
      ↔ HasKnown schema parent n
  none_at schema parent (field f) =
      none_unknown_of (unknown_on_field_message f.item.name.item.now (name_of_known parent))
      (known_on_field parent f.item.name.item.now) f.item.arguments
  none_at schema parent (directive d) =
      none_unknown_of (unknown_on_directive_message d.item.name.item.now) (directive_arguments schema d.item.name.item.now) d.item.arguments
  none_at schema parent _ = (λ e. tt, λ u. refl)

-- nothing is found at an occurrence if and only if the arguments there are known
pub none_unknown : {S C : Type 0} (scope : DocumentScope S C) (o : Occurrence S C) → (unknown_arguments scope o ≡ [])
    ↔ HasKnown scope.schema o.types.parent o.node
none_unknown scope o = none_at scope.schema o.types.parent o.node
