-- When the rule finds nothing at a node. In specs/, since ghost members of an impl cite nothing else.
use Rattle.std.proofs.Common.{◌≡◌, ◌↔◌, ℕ, List, [], ◌∷◌, map, refl, ap, sym, ◌∙◌}
use Rattle.std.specs.Prelude.{Option, Some, None, true}
use Rattle.language_values.specs.ValuesEqual.{are_distinct}
use Rattle.language.specs.declared.tree.VariableDefinitions.{VariableDefinitions}
use Rattle.events.specs.Node.{Node, Name, Placed, operation_definition}
use Rattle.walk.specs.ContextState.{DocumentScope}
use Rattle.events.specs.Occurrence.{Occurrence}
use Rattle.rules_support.specs.RepeatsLaws.{none_repeat_in}
use Rattle.rules_operations.specs.UniqueVariableNames.{repeated_variable_message, repeated_among, repeated_in_operation}
use Rattle.rules_operations.specs.UniqueVariableNames.{repeated_variables, AreDistinctVariables, HasDistinctVariables}

module _ {S : Type 0} where
  none_among : (written : Option (Placed (VariableDefinitions S))) → (repeated_among written ≡ []) ↔ AreDistinctVariables written
  none_among None = (λ e. tt, λ u. refl)
  none_among (Some definitions) = none_repeat_in repeated_variable_message definitions.item.items.items

  none_at : (n : Node S) → (repeated_in_operation n ≡ []) ↔ HasDistinctVariables n
  none_at (operation_definition o) = none_among o.item.variable_definitions
  none_at _ = (λ e. tt, λ u. refl)

-- nothing is found at an occurrence if and only if the variables there are distinct
pub none_repeated : {S C : Type 0} (scope : DocumentScope S C) (o : Occurrence S C) → (repeated_variables scope o ≡ [])
    ↔ HasDistinctVariables o.node
none_repeated scope o = none_at o.node
