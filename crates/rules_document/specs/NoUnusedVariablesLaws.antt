-- When the rule reports nothing. In specs/, since ghost members of an impl cite nothing else.
use Rattle.walk.specs.Rule.{SilentIff}
use Rattle.variable_usages.specs.Unused.{UnusedVariables}
use Rattle.rules_document.specs.AtDocument.{given_at_end}
use Rattle.rules_document.specs.AtDocumentLaws.{lists_silent}
use Rattle.rules_document.specs.NoUnusedVariables.{unused_variable_error, unused_variable_errors}
use Rattle.rules_document.specs.UsedVariables.{AllUsed}
use Rattle.rules_document.specs.UsedVariablesLaws.{unused_none}

-- what may be reported is nothing if and only if each variable is used
pub unused_variables_silent : {S C : Type 0} → SilentIff (given_at_end {S = S} {C = C} unused_variable_errors) (λ scope t doc. AllUsed doc)
unused_variables_silent = lists_silent UnusedVariables unused_variable_error AllUsed unused_none
