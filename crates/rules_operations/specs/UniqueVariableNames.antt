-- Later variables of a name (section 5.8.1).
use Rattle.std.specs.Prelude.{◌≡◌, ℕ, List, [], ◌++◌, true, Option, Some, None, map, codes}
use Rattle.language_values.specs.ValuesEqual.{are_distinct}
use Rattle.language.specs.declared.tree.VariableDefinitions.{VariableDefinitions}
use Rattle.walk.specs.ContextState.{DocumentScope}
use Rattle.walk.specs.ErrorValue.{ErrorValue}
use Rattle.events.specs.Node.{Node, Placed, operation_definition}
use Rattle.events.specs.Occurrence.{Occurrence}
use Rattle.rules_support.specs.Names.{text_name}
use Rattle.rules_support.specs.Repeats.{repeats}

abbrev pub repeated_variable_message : List ℕ → List ℕ
repeated_variable_message name = codes "There can only be one variable named " ++ name

-- those of a list of variables, if there is one
abbrev pub repeated_among : {S : Type 0} → Option (Placed (VariableDefinitions S)) → List ErrorValue
repeated_among None = []
repeated_among (Some definitions) = repeats repeated_variable_message (map text_name definitions.item.items.items)

-- at a node: an operation
abbrev pub repeated_in_operation : {S : Type 0} → Node S → List ErrorValue
repeated_in_operation (operation_definition o) = repeated_among o.item.variable_definitions
repeated_in_operation _ = []

-- at an operation: each variable whose name stands earlier in its list
abbrev pub repeated_variables : {S C : Type 0} → DocumentScope S C → Occurrence S C → List ErrorValue
repeated_variables scope o = repeated_in_operation o.node

-- no two of a list of variables, if there is one, have the same name
abbrev pub AreDistinctVariables : {S : Type 0} → Option (Placed (VariableDefinitions S)) → Type 0
AreDistinctVariables None = Unit {0}
AreDistinctVariables (Some definitions) = are_distinct (map (λ v. v.0.item.now) definitions.item.items.items) ≡ true

-- at a node: no two variables of an operation have the same name
abbrev pub HasDistinctVariables : {S : Type 0} → Node S → Type 0
HasDistinctVariables (operation_definition o) = AreDistinctVariables o.item.variable_definitions
HasDistinctVariables _ = Unit {0}
