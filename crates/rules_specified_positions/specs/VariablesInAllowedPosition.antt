-- Variables that are used where their type is not allowed (section 5.8.5).
use Rattle.std.specs.Prelude.{◌≡◌, ℕ, List, Option, Some, map}
use Rattle.std.specs.List.{Contains}
use Rattle.language.specs.declared.tree.Definition.{Definition}
use Rattle.meta.specs.declared.kinds.MetaTypeOf.{MetaTypeOf}
use Rattle.events.specs.Node.{VariableEntry}
use Rattle.walk.specs.ContextState.{DocumentScope}
use Rattle.walk.specs.ErrorValue.{ErrorValue}
use Rattle.walk.specs.Rule.{Allowance, Condition}
use Rattle.fragment_reach.specs.Reach.{Reach}
use Rattle.operation_scopes.specs.Scopes.{IsOperationName, scope_of}
use Rattle.rules_positions.specs.DefinedVariables.{first_of, variables_of}
use Rattle.rules_positions.specs.JudgedUses as judged_uses
use Rattle.rules_specified_positions.specs.PlacedUses.{placed_uses}
use Rattle.rules_specified_uses.specs.ValueUses.{UseValue, use_values}
use Rattle.rules_specified_positions.specs.Usages.{IsAllowed, Judged}
use Rattle.rules_specified_positions.specs.declared.variables_in_allowed_position.VariableInAllowedPosition.{VariableInAllowedPosition}

module _ {S C : Type 0} where
  -- each use in what the operations of each name reach, judged by the default values of the variable and of the place
  abbrev pub DocumentGives : List (MetaTypeOf S C) → List (Definition S) → List (List UseValue) → List ErrorValue → Type 0
  DocumentGives types document uses es = judged_uses.DocumentGives (λ (u : UseValue). u.variable) Judged types document uses es

  -- what is given by the uses that were recorded
  abbrev pub given_by_uses : DocumentScope S C → List (Definition S) → List (List UseValue) → VariableInAllowedPosition
      → List ErrorValue → Type 0
  given_by_uses scope document uses end es = DocumentGives scope.schema.types document uses es

  -- what is given of a document by its uses, definition by definition
  abbrev pub misplaced_variables : Allowance S C
  misplaced_variables scope t document es = DocumentGives scope.schema.types document (map (placed_uses scope.schema t) document) es

  -- In each definition that the operations of a name reach: a variable that they define may stand where it is used.
  abbrev pub AllAllowed : Condition S C
  AllAllowed scope t document =
      (name : Option (List ℕ)) (d : Definition S) (u : UseValue) (v : VariableEntry S)
      → IsOperationName document name → Contains document d → Reach document name (scope_of d) → Contains (placed_uses scope.schema t d) u
      → first_of (variables_of document name) u.variable ≡ Some v → IsAllowed scope.schema.types v.1 u.at

abbrev pub recorded_uses : VariableInAllowedPosition → List (List UseValue)
recorded_uses rule = use_values rule.uses.items
