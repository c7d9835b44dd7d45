-- The rules on arguments and directives, one after the other, report what each of them reports.
use Rattle.std.specs.Prelude.{List}
use Rattle.events.specs.Occurrence.{Occurrence}
use Rattle.rules_arguments.specs.declared.known_argument_names.KnownArgumentNames.{KnownArgumentNames}
use Rattle.rules_arguments.specs.declared.known_directives.KnownDirectives.{KnownDirectives}
use Rattle.rules_arguments.specs.declared.provided_non_null_arguments.ProvidedNonNullArguments.{ProvidedNonNullArguments}
use Rattle.rules_arguments.specs.declared.unique_argument_names.UniqueArgumentNames.{UniqueArgumentNames}
use Rattle.rules_arguments.specs.declared.unique_directive_names.UniqueDirectiveNames.{UniqueDirectiveNames}
use Rattle.rules_arguments.specs.declared.unique_input_field_names.UniqueInputFieldNames.{UniqueInputFieldNames}
use Rattle.rules_arguments.specs.KnownArgumentNames.{unknown_arguments}
use Rattle.rules_arguments.specs.KnownDirectives.{unsuitable_directives}
use Rattle.rules_arguments.specs.ProvidedNonNullArguments.{missing_arguments}
use Rattle.rules_arguments.specs.UniqueArgumentNames.{repeated_arguments}
use Rattle.rules_arguments.specs.UniqueDirectiveNames.{repeated_directives}
use Rattle.rules_arguments.specs.UniqueInputFieldNames.{repeated_keys}
use Rattle.walk.specs.declared.multi_visitor.MultiVisitorCons.{MultiVisitorCons}
use Rattle.walk.specs.declared.multi_visitor.MultiVisitorNil.{MultiVisitorNil}
use Rattle.walk.specs.ContextState.{DocumentScope}
use Rattle.walk.specs.Entering.{finding_step, found}
use Rattle.walk.specs.ErrorValue.{ErrorValue}
use Rattle.walk.specs.Pair.{no_step, pair_step}
use Rattle.walk.specs.Rule.{Allowance, AllowsFrom, always, any_value, exactly, nothing, pair_allows, pair_fresh}
use Rattle.walk.specs.RuleLaws.{nil_keeps, pair_keeps}
use Rattle.walk.specs.Step.{StepOf}
use Rattle.walk.proofs.Entering.{finding_keeps}

-- a list of rules: what they do, when they are fresh, what they may report, and that they report no more
pub record Listed (S C V : Type 0) : Type 1 where
  pub step : StepOf S C V
  pub fresh : V → Type 0
  pub allows : V → Allowance S C
  pub keeps : AllowsFrom step fresh allows

-- the list of the rules, the newest first
abbrev DirectiveRules : Type 0
DirectiveRules = MultiVisitorCons KnownDirectives (MultiVisitorCons KnownArgumentNames MultiVisitorNil)

abbrev OfArguments : Type 0
OfArguments = MultiVisitorCons UniqueDirectiveNames
    (MultiVisitorCons UniqueInputFieldNames
    (MultiVisitorCons UniqueArgumentNames (MultiVisitorCons ProvidedNonNullArguments DirectiveRules)))

module _ {S C : Type 0} where
  abbrev none : Listed S C MultiVisitorNil
  none = record { step = no_step; fresh = any_value; allows = always nothing; keeps = nil_keeps }

  -- before the others a rule that reports what it finds at each occurrence
  abbrev before : {V W : Type 0} → (DocumentScope S C → Occurrence S C → List ErrorValue) → Listed S C W → Listed S C (MultiVisitorCons V W)
  before finds others = record {
    step = pair_step (finding_step finds) others.step;
    fresh = pair_fresh any_value others.fresh;
    allows = pair_allows (always (exactly (found finds))) others.allows;
    keeps = pair_keeps (finding_step finds) others.step any_value others.fresh
        (always (exactly (found finds))) others.allows (finding_keeps finds) others.keeps;
  }

  abbrev pub argument_rules : Listed S C OfArguments
  argument_rules =
      before repeated_directives (before repeated_keys
      (before repeated_arguments (before missing_arguments
      (before unsuitable_directives (before unknown_arguments none)))))
