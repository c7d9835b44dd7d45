-- Variables that are used where their type is not allowed.
use Rattle.std.specs.Prelude.{◌≡◌, ◌⊎◌, ℕ, List, [], ◌∷◌, ◌++◌, is_some, map, codes, if◌then◌else◌}
use Rattle.language_types.specs.Types.{TypeShape, shape, non_null_of, printed}
use Rattle.language.specs.declared.tree.Definition.{Definition}
use Rattle.language.specs.declared.tree.VariableDefinition.{VariableDefinition}
use Rattle.meta.specs.declared.kinds.MetaTypeOf.{MetaTypeOf}
use Rattle.schema.specs.Subtype.{IsSubtype}
use Rattle.events.specs.Node.{VariableEntry}
use Rattle.walk.specs.ContextState.{DocumentScope}
use Rattle.walk.specs.ErrorValue.{ErrorValue}
use Rattle.walk.specs.Rule.{Allowance}
use Rattle.rules_positions.specs.JudgedUses as judged_uses
use Rattle.rules_positions.specs.TypedUses.{UseValue, typed_uses, use_values}
use Rattle.rules_positions.specs.declared.variables_in_allowed_position.VariableInAllowedPosition.{VariableInAllowedPosition}

abbrev pub position_message : List ℕ → List ℕ → List ℕ → List ℕ
position_message variable t expected =
    codes "Variable \"" ++ (variable ++ (codes "\" of type \"" ++ (t ++ (codes "\" used in position expecting type \"" ++ (expected ++ codes "\"")))))

-- a variable with a default value is never null where it is used
abbrev pub type_in_use : {S : Type 0} → VariableDefinition S → TypeShape
type_in_use d = if is_some d.default_value then non_null_of (shape d.var_type.item) else shape d.var_type.item

-- the error at a use of a variable whose type may not stand there
abbrev pub position_error : {S : Type 0} → VariableEntry S → UseValue → ErrorValue
position_error d u =
    record {
      locations = d.0.span.start ∷ u.place ∷ [];
      message = position_message u.variable (printed (type_in_use d.1)) (printed u.expected);
    }

module _ {S C : Type 0} (types : List (MetaTypeOf S C)) where
  -- an error if the variable's type is not a subtype of the expected one, and no error otherwise
  abbrev pub Judged : VariableEntry S → UseValue → List ErrorValue → Type 0
  Judged d u es =
      (IsSubtype types (type_in_use d.1) u.expected × (es ≡ []))
      ⊎ (¬ (IsSubtype types (type_in_use d.1) u.expected) × (es ≡ position_error d u ∷ []))

module _ {S C : Type 0} where
  -- each use in what the operations of each name reach, judged so
  abbrev pub DocumentGives : List (MetaTypeOf S C) → List (Definition S) → List (List UseValue) → List ErrorValue → Type 0
  DocumentGives types document uses es = judged_uses.DocumentGives (λ (u : UseValue). u.variable) Judged types document uses es

  -- what is given by the uses that were recorded
  abbrev pub given_by_uses : DocumentScope S C → List (Definition S) → List (List UseValue) → VariableInAllowedPosition
      → List ErrorValue → Type 0
  given_by_uses scope document uses end es = DocumentGives scope.schema.types document uses es

  -- what is given of a document by its uses, definition by definition
  abbrev pub misplaced_variables : Allowance S C
  misplaced_variables scope t document es = DocumentGives scope.schema.types document (map (typed_uses scope.schema t) document) es

abbrev pub recorded_uses : VariableInAllowedPosition → List (List UseValue)
recorded_uses rule = use_values rule.uses.items
