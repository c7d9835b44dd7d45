-- Where the variables of a document are used, by their types (section 5.8.5).
use Rattle.std.specs.Prelude.{◌≡◌, ℕ, List, Option, Some}
use Rattle.std.specs.List.{Contains}
use Rattle.language_types.specs.Types.{TypeShape}
use Rattle.language.specs.declared.tree.Definition.{Definition}
use Rattle.schema.specs.Subtype.{IsSubtype}
use Rattle.events.specs.Node.{Placed, VariableEntry, variable_value}
use Rattle.events.specs.Occurrence.{Occurrence, occurrences_in}
use Rattle.walk.specs.Rule.{Condition}
use Rattle.fragment_reach.specs.Reach.{Reach}
use Rattle.operation_scopes.specs.Scopes.{IsOperationName, scope_of}
use Rattle.rules_positions.specs.DefinedVariables.{first_of, variables_of}
use Rattle.rules_positions.specs.VariablesInAllowedPosition.{type_in_use}

module _ {S C : Type 0} where
  -- In each definition that the operations of a name reach: where a type is expected, a variable that they define has a
  -- subtype of it.
  abbrev pub AllAllowed : Condition S C
  AllAllowed scope t document =
      (name : Option (List ℕ)) (d : Definition S) (o : Occurrence S C) (x : Placed (List ℕ)) (expected : TypeShape) (v : VariableEntry S)
      → IsOperationName document name → Contains document d → Reach document name (scope_of d)
      → Contains (occurrences_in scope.schema t d) o → o.node ≡ variable_value x → o.types.input ≡ Some expected
      → first_of (variables_of document name) x.item ≡ Some v → IsSubtype scope.schema.types (type_in_use v.1) expected
