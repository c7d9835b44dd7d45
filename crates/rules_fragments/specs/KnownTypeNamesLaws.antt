-- When the rule finds nothing at a node. In specs/, since ghost members of an impl cite nothing else.
use Rattle.std.proofs.Common.{◌≡◌, ◌↔◌, List, [], refl}
use Rattle.std.specs.Prelude.{ℕ, Option, Some, None, is_some}
use Rattle.language_types.specs.Types.{shape}
use Rattle.language_types.specs.declared.position.SourcePosition.{SourcePosition}
use Rattle.schema.specs.Catalog.{Catalog, type_in}
use Rattle.walk.specs.ContextState.{DocumentScope}
use Rattle.events.specs.Node.{Node, Name, fragment_definition, inline_fragment, variable_definition}
use Rattle.events.specs.Occurrence.{Occurrence}
use Rattle.rules_support.specs.FoundLaws.{none_unless}
use Rattle.rules_fragments.specs.KnownTypeNames.{unknown_type, unknown_condition, unknown_type_at, unknown_types}
use Rattle.rules_fragments.specs.KnownTypeNames.{IsKnown, IsKnownCondition, NamesKnown}

module _ {S C : Type 0} (schema : Catalog S C) where
  none_named : (name : List ℕ) (place : SourcePosition) → (unknown_type schema name place ≡ []) ↔ IsKnown schema name
  none_named name place = none_unless (is_some (type_in name schema)) _

  none_if_there : (condition : Option Name) → (unknown_condition schema condition ≡ []) ↔ IsKnownCondition schema condition
  none_if_there None = (λ e. tt, λ u. refl)
  none_if_there (Some name) = none_named name.item.now name.span.start

  none_at : (n : Node S) → (unknown_type_at schema n ≡ []) ↔ NamesKnown schema n
  none_at (fragment_definition f) = none_named f.item.type_condition.item.now f.item.type_condition.span.start
  none_at (inline_fragment i) = none_if_there i.item.type_condition
  none_at (variable_definition v) = none_named (shape v.1.var_type.item).name v.1.var_type.span.start
  none_at _ = (λ e. tt, λ u. refl)

-- nothing is found at an occurrence if and only if the types named there are known
pub none_unknown : {S C : Type 0} (scope : DocumentScope S C) (o : Occurrence S C) → (unknown_types scope o ≡ [])
    ↔ NamesKnown scope.schema o.node
none_unknown scope o = none_at scope.schema o.node
