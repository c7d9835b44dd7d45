-- The rules that look across the document report what the list of them reports.
use Rattle.walk.specs.Pair.{no_step}
use Rattle.walk.specs.Rule.{AllowsFrom, SilentIff, always, anywhere, any_value, both_so, nothing}
use Rattle.walk.specs.RuleLaws.{nil_keeps, nil_silent, pair_keeps, pair_silent}
use Rattle.fragment_graph.specs.DocumentCycles.{HasNoCycle}
use Rattle.rules_document.specs.NoFragmentCyclesLaws.{cycles_silent}
use Rattle.rules_document.specs.NoUnusedFragmentsLaws.{unused_silent}
use Rattle.rules_document.specs.NoUndefinedVariablesLaws.{undefineds_silent}
use Rattle.rules_document.specs.NoUnusedVariablesLaws.{unused_variables_silent}
use Rattle.rules_document.specs.AtDocument.{document_step, given_at_end}
use Rattle.rules_document.specs.AtDocumentLaws.{document_keeps}
use Rattle.rules_document.specs.NoFragmentCycles.{cycle_errors}
use Rattle.rules_document.specs.NoUndefinedVariables.{undefined_errors}
use Rattle.rules_document.specs.NoUnusedFragments.{NoneUnused, unused_errors}
use Rattle.rules_document.specs.NoUnusedVariables.{unused_variable_errors}
use Rattle.rules_document.specs.UsedVariables.{AllDefined, AllUsed}
use Rattle.rules_positions.specs.AllowedPositions.{AllAllowed}
use Rattle.rules_positions.specs.VariablesInAllowedPositionLaws.{positions_keep, positions_silent}
use Rattle.rules_positions.specs.VariablesInAllowedPosition.{misplaced_variables}
use Rattle.rules_first_stage.specs.AlongLaws.{keeps_along}
use Rattle.rules_first_stage.specs.Across.{across_allows, across_fresh, across_step, any_four, any_one, any_three}
use Rattle.rules_first_stage.specs.Across.{any_two, last_allows, last_four_allow, last_four_step, last_step}
use Rattle.rules_first_stage.specs.Across.{last_three_allow, last_three_step, last_two_allow, last_two_step}
use Rattle.rules_first_stage.specs.Across.{list_allows, list_fresh, list_step, none_recorded, positions_step, rule_list}

last_keeps : {S C : Type 0} → AllowsFrom (last_step {S = S} {C = C}) any_one last_allows
last_keeps = pair_keeps (document_step cycle_errors) no_step any_value any_value (given_at_end cycle_errors)
    (always nothing) (document_keeps cycle_errors) nil_keeps

last_two_keep : {S C : Type 0} → AllowsFrom (last_two_step {S = S} {C = C}) any_two last_two_allow
last_two_keep = pair_keeps (document_step undefined_errors) last_step any_value any_one
    (given_at_end undefined_errors) last_allows (document_keeps undefined_errors) last_keeps

last_three_keep : {S C : Type 0} → AllowsFrom (last_three_step {S = S} {C = C}) any_three last_three_allow
last_three_keep = pair_keeps (document_step unused_errors) last_two_step any_value any_two
    (given_at_end unused_errors) last_two_allow (document_keeps unused_errors) last_two_keep

last_four_keep : {S C : Type 0} → AllowsFrom (last_four_step {S = S} {C = C}) any_four last_four_allow
last_four_keep =
    pair_keeps (document_step unused_variable_errors) last_three_step any_value any_three
    (given_at_end unused_variable_errors) last_three_allow (document_keeps unused_variable_errors) last_three_keep

list_keeps : {S C : Type 0} → AllowsFrom (list_step {S = S} {C = C}) list_fresh list_allows
list_keeps = pair_keeps positions_step last_four_step none_recorded any_four
    (always misplaced_variables) last_four_allow positions_keep last_four_keep

pub across_keeps : {S C : Type 0} → AllowsFrom (across_step {S = S} {C = C}) across_fresh across_allows
across_keeps = keeps_along rule_list list_step list_fresh list_allows list_keeps

-- and it is nothing where each of them finds nothing
pub across_silent : {S C : Type 0}
    → SilentIff (across_allows {S = S} {C = C})
    (both_so AllAllowed (both_so (λ scope t doc. AllUsed doc)
    (both_so (λ scope t doc. NoneUnused doc)
    (both_so (λ scope t doc. AllDefined doc) (both_so (λ scope t doc. HasNoCycle doc) anywhere)))))
across_silent end =
    pair_silent (always misplaced_variables) last_four_allow AllAllowed _ positions_silent
    (pair_silent (given_at_end unused_variable_errors) last_three_allow (λ scope t doc. AllUsed doc) _ unused_variables_silent
    (pair_silent (given_at_end unused_errors) last_two_allow (λ scope t doc. NoneUnused doc) _ unused_silent
    (pair_silent (given_at_end undefined_errors) last_allows (λ scope t doc. AllDefined doc) _ undefineds_silent
    (pair_silent (given_at_end cycle_errors) (always nothing) (λ scope t doc. HasNoCycle doc) anywhere cycles_silent nil_silent))))
    (rule_list end)
