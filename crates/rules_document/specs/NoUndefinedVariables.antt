-- Variables that are used where they are not defined (section 5.8.3).
use Rattle.std.specs.Prelude.{ℕ, List, [], ◌∷◌, ◌++◌, Option, None, Some, codes}
use Rattle.walk.specs.ErrorValue.{ErrorValue}
use Rattle.variable_usages.specs.Undefined.{Undefined, UndefinedVariables}
use Rattle.rules_document.specs.AtDocument.{Gives, lists}
use Rattle.rules_document.specs.declared.no_undefined_variables.NoUndefinedVariables.{NoUndefinedVariables}

abbrev pub undefined_message : List ℕ → Option (List ℕ) → List ℕ
undefined_message name None = (codes "Variable \"$" ++ name) ++ codes "\" is not defined"
undefined_message name (Some called) =
    codes "Variable \"$" ++ (name ++ (codes "\" is not defined by operation \"" ++ (called ++ codes "\"")))

-- at the argument's value, and at the operation
abbrev pub undefined_error : Undefined → ErrorValue
undefined_error u = record { locations = u.place ∷ u.operation_place ∷ []; message = undefined_message u.name u.operation }

-- for each name of operations: each use in their reach whose variable the last of them doesn't define
abbrev pub undefined_errors : {S C : Type 0} → Gives S C NoUndefinedVariables
undefined_errors scope document end es = lists UndefinedVariables undefined_error scope document end es
