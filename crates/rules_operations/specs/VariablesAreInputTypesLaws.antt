-- When the rule finds nothing at a node. In specs/, since ghost members of an impl cite nothing else.
use Rattle.std.proofs.Common.{◌≡◌, ◌↔◌, List, [], refl}
use Rattle.std.specs.Prelude.{Option, Some, None, true}
use Rattle.std.specs.Option.{option_map_or}
use Rattle.language_types.specs.Types.{shape}
use Rattle.meta.specs.Kinds.{is_input_meta}
use Rattle.meta.specs.declared.kinds.MetaTypeOf.{MetaTypeOf}
use Rattle.schema.specs.Catalog.{Catalog, type_in}
use Rattle.walk.specs.ContextState.{DocumentScope}
use Rattle.events.specs.Node.{Node, VariableEntry, variable_definition}
use Rattle.events.specs.Occurrence.{Occurrence}
use Rattle.rules_support.specs.FoundLaws.{none_unless}
use Rattle.rules_operations.specs.VariablesAreInputTypes.{not_input, non_input_at, non_input_variables, HasInputType}

module _ {S C : Type 0} where
  none_if_input : (t : Option (MetaTypeOf S C)) (v : VariableEntry S) → (not_input t v ≡ []) ↔ (option_map_or is_input_meta t true ≡ true)
  none_if_input None v = (λ e. refl, λ e. refl)
  none_if_input (Some t) v = none_unless (is_input_meta t) _

  none_at : (schema : Catalog S C) (n : Node S) → (non_input_at schema n ≡ []) ↔ HasInputType schema n
  none_at schema (variable_definition v) = none_if_input (type_in (shape v.1.var_type.item).name schema) v
  none_at schema _ = (λ e. tt, λ u. refl)

-- nothing is found at an occurrence if and only if the type there is an input type
pub none_non_input : {S C : Type 0} (scope : DocumentScope S C) (o : Occurrence S C)
    → (non_input_variables scope o ≡ []) ↔ HasInputType scope.schema o.node
none_non_input scope o = none_at scope.schema o.node
