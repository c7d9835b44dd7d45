-- Variables that are defined and not used (section 5.8.4).
use Rattle.std.specs.Prelude.{ℕ, List, [], ◌∷◌, ◌++◌, Option, None, Some, codes}
use Rattle.walk.specs.ErrorValue.{ErrorValue}
use Rattle.variable_usages.specs.Unused.{Unused, UnusedVariables}
use Rattle.rules_document.specs.AtDocument.{Gives, lists}
use Rattle.rules_document.specs.declared.no_unused_variables.NoUnusedVariables.{NoUnusedVariables}

abbrev pub unused_variable_message : List ℕ → Option (List ℕ) → List ℕ
unused_variable_message name None = (codes "Variable \"$" ++ name) ++ codes "\" is not used"
unused_variable_message name (Some called) =
    codes "Variable \"$" ++ (name ++ (codes "\" is not used by operation \"" ++ (called ++ codes "\"")))

-- at its name in the definition
abbrev pub unused_variable_error : Unused → ErrorValue
unused_variable_error u = record { locations = u.span.start ∷ []; message = unused_variable_message u.name u.operation }

-- for each name of operations: each variable that the last of them defines and that isn't used in their reach, once
abbrev pub unused_variable_errors : {S C : Type 0} → Gives S C NoUnusedVariables
unused_variable_errors scope document end es = lists UnusedVariables unused_variable_error scope document end es
