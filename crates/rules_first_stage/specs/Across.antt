-- The rules that look across the document, as the list of them that they stand for.
use Rattle.std.specs.Prelude.{◌≡◌, List, []}
use Rattle.language.specs.declared.tree.Definition.{Definition}
use Rattle.events.specs.Node
use Rattle.events.specs.TypedEvent.{leaving, TypedEvent}
use Rattle.events.specs.Typing.{Typing}
use Rattle.walk.specs.declared.multi_visitor.MultiVisitorCons.{MultiVisitorCons}
use Rattle.walk.specs.declared.multi_visitor.MultiVisitorNil.{MultiVisitorNil}
use Rattle.walk.specs.Pair.{no_step, pair_step}
use Rattle.walk.specs.Rule.{Allowance, always, any_value, nothing, pair_allows, pair_fresh}
use Rattle.walk.specs.Step.{StepOf}
use Rattle.rules_document.specs.declared.no_fragment_cycles.NoFragmentCycles.{NoFragmentCycles}
use Rattle.rules_document.specs.declared.no_undefined_variables.NoUndefinedVariables.{NoUndefinedVariables}
use Rattle.rules_document.specs.declared.no_unused_fragments.NoUnusedFragments.{NoUnusedFragments}
use Rattle.rules_document.specs.declared.no_unused_variables.NoUnusedVariables.{NoUnusedVariables}
use Rattle.rules_document.specs.AtDocument.{document_step, given_at_end}
use Rattle.rules_document.specs.NoFragmentCycles.{cycle_errors}
use Rattle.rules_document.specs.NoUndefinedVariables.{undefined_errors}
use Rattle.rules_document.specs.NoUnusedFragments.{unused_errors}
use Rattle.rules_document.specs.NoUnusedVariables.{unused_variable_errors}
use Rattle.rules_positions.specs.declared.variables_in_allowed_position.VariableInAllowedPosition.{VariableInAllowedPosition}
use Rattle.rules_positions.specs.Recording.{recording_step}
use Rattle.rules_positions.specs.TypedUses.{next_uses}
use Rattle.rules_positions.specs.VariablesInAllowedPosition.{given_by_uses, misplaced_variables, recorded_uses}
use Rattle.rules_first_stage.specs.declared.across.AcrossDocument.{AcrossDocument}
use Rattle.rules_first_stage.specs.Along.{along, step_along}

abbrev pub LastRule : Type 0
LastRule = MultiVisitorCons NoFragmentCycles MultiVisitorNil

abbrev pub LastTwo : Type 0
LastTwo = MultiVisitorCons NoUndefinedVariables LastRule

abbrev pub LastThree : Type 0
LastThree = MultiVisitorCons NoUnusedFragments LastTwo

abbrev pub LastFour : Type 0
LastFour = MultiVisitorCons NoUnusedVariables LastThree

abbrev pub RuleList : Type 0
RuleList = MultiVisitorCons VariableInAllowedPosition LastFour

-- the list of the rules, the newest first
abbrev pub rule_list : AcrossDocument → RuleList
rule_list a =
    record {
      0 = a.positions;
      1 = record {
        0 = a.unused_variables;
        1 = record {
          0 = a.unused_fragments;
          1 = record
              { 0 = a.undefined_variables; 1 = record { 0 = a.cycles; 1 = record {} } };
        };
      };
    }

-- each is as its maker makes it
abbrev pub none_recorded : VariableInAllowedPosition → Type 0
none_recorded a = recorded_uses a ≡ []

abbrev pub any_one : LastRule → Type 0
any_one = pair_fresh any_value any_value

abbrev pub any_two : LastTwo → Type 0
any_two = pair_fresh any_value any_one

abbrev pub any_three : LastThree → Type 0
any_three = pair_fresh any_value any_two

abbrev pub any_four : LastFour → Type 0
any_four = pair_fresh any_value any_three

abbrev pub list_fresh : RuleList → Type 0
list_fresh = pair_fresh none_recorded any_four

abbrev pub across_fresh : AcrossDocument → Type 0
across_fresh = along rule_list list_fresh

module _ {S C : Type 0} where
  abbrev pub leaving_document : List (Definition S) → Typing S C → TypedEvent S C
  leaving_document document t = record { side = leaving; node = Node.document document; types = t }

  abbrev pub positions_step : StepOf S C VariableInAllowedPosition
  positions_step = recording_step recorded_uses next_uses given_by_uses

  -- what the oldest rules of the list do, from one to all
  abbrev pub last_step : StepOf S C LastRule
  last_step = pair_step (document_step cycle_errors) no_step

  abbrev pub last_two_step : StepOf S C LastTwo
  last_two_step = pair_step (document_step undefined_errors) last_step

  abbrev pub last_three_step : StepOf S C LastThree
  last_three_step = pair_step (document_step unused_errors) last_two_step

  abbrev pub last_four_step : StepOf S C LastFour
  last_four_step = pair_step (document_step unused_variable_errors) last_three_step

  abbrev pub list_step : StepOf S C RuleList
  list_step = pair_step positions_step last_four_step

  -- what the list of them does
  abbrev pub across_step : StepOf S C AcrossDocument
  across_step = step_along rule_list list_step

  -- and what they allow
  abbrev pub last_allows : LastRule → Allowance S C
  last_allows = pair_allows (given_at_end cycle_errors) (always nothing)

  abbrev pub last_two_allow : LastTwo → Allowance S C
  last_two_allow = pair_allows (given_at_end undefined_errors) last_allows

  abbrev pub last_three_allow : LastThree → Allowance S C
  last_three_allow = pair_allows (given_at_end unused_errors) last_two_allow

  abbrev pub last_four_allow : LastFour → Allowance S C
  last_four_allow = pair_allows (given_at_end unused_variable_errors) last_three_allow

  abbrev pub list_allows : RuleList → Allowance S C
  list_allows = pair_allows (always misplaced_variables) last_four_allow

  -- and what it allows
  abbrev pub across_allows : AcrossDocument → Allowance S C
  across_allows = along rule_list list_allows
