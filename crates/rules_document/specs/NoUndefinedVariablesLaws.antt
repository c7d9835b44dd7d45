-- When the rule reports nothing. In specs/, since ghost members of an impl cite nothing else.
use Rattle.walk.specs.Rule.{SilentIff}
use Rattle.variable_usages.specs.Undefined.{UndefinedVariables}
use Rattle.rules_document.specs.AtDocument.{given_at_end}
use Rattle.rules_document.specs.AtDocumentLaws.{lists_silent}
use Rattle.rules_document.specs.NoUndefinedVariables.{undefined_error, undefined_errors}
use Rattle.rules_document.specs.UsedVariables.{AllDefined}
use Rattle.rules_document.specs.UsedVariablesLaws.{undefined_none}

-- what may be reported is nothing if and only if each variable that is used is defined
pub undefineds_silent : {S C : Type 0} → SilentIff (given_at_end {S = S} {C = C} undefined_errors) (λ scope t doc. AllDefined doc)
undefineds_silent = lists_silent UndefinedVariables undefined_error AllDefined undefined_none
