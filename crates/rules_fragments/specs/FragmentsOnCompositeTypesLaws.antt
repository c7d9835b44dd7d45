-- When the rule finds nothing at a node. In specs/, since ghost members of an impl cite nothing else.
use Rattle.std.proofs.Common.{◌≡◌, ◌↔◌, List, [], refl}
use Rattle.std.specs.Prelude.{ℕ, Option, Some, None, true}
use Rattle.std.specs.Option.{option_map_or}
use Rattle.meta.specs.Kinds.{is_composite_meta}
use Rattle.meta.specs.declared.kinds.MetaTypeOf.{MetaTypeOf}
use Rattle.schema.specs.Catalog.{Catalog, type_in}
use Rattle.walk.specs.ContextState.{DocumentScope}
use Rattle.events.specs.Node.{Node, Name, fragment_definition, inline_fragment}
use Rattle.events.specs.Occurrence.{Occurrence}
use Rattle.rules_support.specs.FoundLaws.{none_unless}
use Rattle.rules_fragments.specs.FragmentsOnCompositeTypes.{not_composite, on_other_type, on_other_type_at}
use Rattle.rules_fragments.specs.FragmentsOnCompositeTypes.{fragments_on_other_types, IsCompositeCondition}
use Rattle.rules_fragments.specs.FragmentsOnCompositeTypes.{IsOnComposite}

module _ {S C : Type 0} where
  none_if_known : (t : Option (MetaTypeOf S C)) (name : Option (List ℕ)) (condition : Name)
      → (not_composite t name condition ≡ []) ↔ (option_map_or is_composite_meta t true ≡ true)
  none_if_known None name condition = (λ e. refl, λ e. refl)
  none_if_known (Some t) name condition = none_unless (is_composite_meta t) _

  none_if_there : (schema : Catalog S C) (name : Option (List ℕ)) (condition : Option Name)
      → (on_other_type schema name condition ≡ []) ↔ IsCompositeCondition schema condition
  none_if_there schema name None = (λ e. tt, λ u. refl)
  none_if_there schema name (Some condition) = none_if_known (type_in condition.item.now schema) name condition

  none_at : (schema : Catalog S C) (n : Node S) → (on_other_type_at schema n ≡ []) ↔ IsOnComposite schema n
  none_at schema (fragment_definition f) = none_if_there schema (Some f.item.name.item.now) (Some f.item.type_condition)
  none_at schema (inline_fragment i) = none_if_there schema None i.item.type_condition
  none_at schema _ = (λ e. tt, λ u. refl)

-- nothing is found at an occurrence if and only if the fragment there is on a composite type
pub none_on_other_type : {S C : Type 0} (scope : DocumentScope S C) (o : Occurrence S C)
    → (fragments_on_other_types scope o ≡ []) ↔ IsOnComposite scope.schema o.node
none_on_other_type scope o = none_at scope.schema o.node
