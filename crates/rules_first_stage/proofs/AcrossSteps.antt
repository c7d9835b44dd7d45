-- What the rules that look across the document do at an event, one after the other.
use Rattle.std.proofs.Common.{◌≡◌, List, [], map, refl, sym, ap}
use denote.Ref.{Bor}
use Rattle.language.specs.declared.tree.Definition.{Definition}
use Rattle.events.specs.declared.event.Event.{Event}
use Rattle.events.specs.declared.event.Event.TheVariants as event
use Rattle.events.specs.EventValue.{typed_event}
use Rattle.events.specs.Typing.{Typing}
use Rattle.walk.specs.ContextState.{ContextState, DocumentScope, scope_of_context, typing, with_errors}
use Rattle.walk.specs.Pair.{no_step}
use Rattle.walk.specs.Rule.{Appended}
use Rattle.walk.specs.Step.{Stepped}
use Rattle.walk.proofs.Kept.{with_none}
use Rattle.walk.proofs.Runs.{Stepped-pair}
use Rattle.rules_document.specs.declared.no_fragment_cycles.NoFragmentCycles.{NoFragmentCycles}
use Rattle.rules_document.specs.AtDocument.{Gives, document_step}
use Rattle.rules_document.specs.NoFragmentCycles.{CycleErrors, cycle_errors}
use Rattle.rules_document.specs.NoUndefinedVariables.{undefined_error, undefined_errors}
use Rattle.rules_document.specs.MetFragments.{NameAndSpan}
use Rattle.rules_document.specs.NoUnusedFragments.{UnusedAmong, unused_error, unused_errors}
use Rattle.rules_document.specs.NoUnusedVariables.{unused_variable_error, unused_variable_errors}
use Rattle.variable_usages.specs.Undefined.{Undefined, UndefinedVariables}
use Rattle.variable_usages.specs.Unused.{Unused, UnusedVariables}
use Rattle.rules_positions.specs.declared.variables_in_allowed_position.VariableInAllowedPosition.{VariableInAllowedPosition}
use Rattle.rules_positions.specs.VariablesInAllowedPosition.{DocumentGives, recorded_uses}
use Rattle.rules_first_stage.specs.declared.across.AcrossDocument.{AcrossDocument}
use Rattle.rules_first_stage.specs.Across.{across_step, last_four_step, last_step, last_three_step, last_two_step, leaving_document, positions_step, rule_list}

module _ {S C : Type 0} where
  same_context : (w : ContextState S C) → w ≡ with_errors w []
  same_context w = with_none w

  -- where no document is left a rule that looks at it there does nothing
  idle_elsewhere : {V : Type 0} (gives : Gives S C V) (scope : DocumentScope S C) (e : Event S) (t : Typing S C) (a : V)
      → ((d : Bor (List (Definition S))) → e ≡ event.ExitDocument d → ⊥) → document_step gives scope (typed_event e t) a a []
  idle_elsewhere gives scope (event.ExitDocument d) t a h = absurd (h d refl)
  idle_elsewhere gives scope _ t a h = (refl, refl)

  idles : {V : Type 0} (gives : Gives S C V) (e : Event S) (a : V) (w : ContextState S C)
      → ((d : Bor (List (Definition S))) → e ≡ event.ExitDocument d → ⊥) → Stepped (document_step gives) (typed_event e (typing w)) a a w w
  idles gives e a w h = ([], idle_elsewhere gives (scope_of_context w) e (typing w) a h, same_context w)

  module _ (a : AcrossDocument) (w w' : ContextState S C) where
    -- only the rule on positions heard of the event
    pub heard : (e : Event S) (positions : VariableInAllowedPosition) → ((d : Bor (List (Definition S))) → e ≡ event.ExitDocument d → ⊥)
        → Stepped positions_step (typed_event e (typing w)) a.positions positions w w'
        → Stepped across_step (typed_event e (typing w)) a (record a { positions = positions }) w w'
    heard e positions h s =
        let b : AcrossDocument = record a { positions = positions } in
        let la = rule_list a in
        let lb = rule_list b in
        Stepped-pair positions_step last_four_step (typed_event e) la lb w w' w' s
        (Stepped-pair (document_step unused_variable_errors) last_three_step (typed_event e) la.1 lb.1 w' w' w' (idles unused_variable_errors e a.unused_variables w' h)
        (Stepped-pair (document_step unused_errors) last_two_step (typed_event e) la.1.1 lb.1.1 w' w' w' (idles unused_errors e a.unused_fragments w' h)
        (Stepped-pair (document_step undefined_errors) last_step (typed_event e) la.1.1.1 lb.1.1.1 w' w' w' (idles undefined_errors e a.undefined_variables w' h)
        (Stepped-pair (document_step cycle_errors) no_step (typed_event e) la.1.1.1.1 lb.1.1.1.1 w' w' w' (idles cycle_errors e a.cycles w' h)
        ([], (refl, refl), same_context w')))))

  module _ (doc : List (Definition S)) (a : AcrossDocument) (cycles : NoFragmentCycles) (w₀ w₁ w₂ w₃ w₄ w₅ : ContextState S C) where
    -- each rule reported of the document
    pub left : Appended (DocumentGives w₀.schema.types doc (recorded_uses a.positions)) w₀ w₁
        → (found : List Unused) × UnusedVariables doc found × (w₂ ≡ with_errors w₁ (map unused_variable_error found))
        → (fs : List NameAndSpan) × UnusedAmong doc doc fs × (w₃ ≡ with_errors w₂ (map unused_error fs))
        → (found : List Undefined) × UndefinedVariables doc found × (w₄ ≡ with_errors w₃ (map undefined_error found))
        → Appended (CycleErrors doc cycles) w₄ w₅
        → Stepped across_step (leaving_document doc (typing w₀)) a (record a { cycles = cycles }) w₀ w₅
    left s₁ (vs, v, e₂) (fs, f, e₃) (us, u, e₄) s₅ =
        let b : AcrossDocument = record a { cycles = cycles } in
        let la = rule_list a in
        let lb = rule_list b in
        Stepped-pair positions_step last_four_step (leaving_document doc) la lb w₀ w₁ w₅ s₁
        (Stepped-pair (document_step unused_variable_errors) last_three_step (leaving_document doc) la.1 lb.1 w₁ w₂ w₅ (map unused_variable_error vs, (vs, v, refl), e₂)
        (Stepped-pair (document_step unused_errors) last_two_step (leaving_document doc) la.1.1 lb.1.1 w₂ w₃ w₅ (map unused_error fs, (fs, f, refl), e₃)
        (Stepped-pair (document_step undefined_errors) last_step (leaving_document doc) la.1.1.1 lb.1.1.1 w₃ w₄ w₅ (map undefined_error us, (us, u, refl), e₄)
        (Stepped-pair (document_step cycle_errors) no_step (leaving_document doc) la.1.1.1.1 lb.1.1.1.1 w₄ w₅ w₅ s₅
        ([], (refl, refl), same_context w₅)))))
