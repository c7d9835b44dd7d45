-- Nothing is reported of what is sent to a root node if and only if it is valid there.
use Rattle.std.proofs.Common.{◌≡◌, ◌∙◌, ◌↔◌, ◌++◌, ℕ, List, [], Bool, true, false, IsPermutation, ap, refl, subst, sym}
use Rattle.std.proofs.lemmas.Bool.{true≢false}
use Rattle.std.proofs.lemmas.List.Sorted.{IsPermutation-sym}
use Rattle.language.specs.declared.tree.Definition.{Definition}
use Rattle.schema.specs.Catalog.{Catalog}
use Rattle.events.specs.Typing.{Typing, untyped}
use Rattle.walk.specs.ContextState.{DocumentScope, fitting, scope_of}
use Rattle.walk.specs.Entering.{everywhere}
use Rattle.walk.specs.RuleLaws.{everywhere_silent}
use Rattle.walk.specs.ErrorValue.{ErrorValue}
use Rattle.walk.proofs.Kept.{first_place, none_fits}
use Rattle.rules_fields.specs.DisableIntrospection.{introspection_fields, AsksNoSchema}
use Rattle.rules_fields.specs.DisableIntrospectionLaws.{none_introspection}
use Rattle.rules_first_stage.specs.CleanStage.{IsCleanWhere}
use Rattle.rules_first_stage.proofs.Distinct.{left_none, right_none}
use Rattle.validation.specs.RootRules.{IsRootReport, IsRootReportUpTo, IsRootValid, introspection}
use Rattle.validation.specs.Stages.{Rules}
use Rattle.validation.proofs.Stages.{none_iff, permuted_none}

-- no field is asked for that is disabled
asked_none : {S C : Type 0} (disabled : Bool) (scope : DocumentScope S C) (t : Typing S C) (doc : List (Definition S)) (es : List ErrorValue) → introspection disabled scope t doc es
    → (es ≡ []) ↔ (disabled ≡ true → everywhere (λ known o. AsksNoSchema o.node) scope t doc)
asked_none true scope t doc es p =
    let law = everywhere_silent {V = Unit {0}} introspection_fields (λ known o. AsksNoSchema o.node) none_introspection tt scope t doc es p in
    (λ e h. law.0 e, λ h. law.1 (h refl))
asked_none false scope t doc es p = (λ e h. absurd (true≢false (sym h)), λ h. p)

module _ {S C : Type 0} (rules : Rules S C) (schema : Catalog S C) (document : List (Definition S)) where
  pub root_valid : (limit : ℕ) (disabled : Bool) (errors : List ErrorValue) (pairs : ℕ) → IsRootReport rules limit disabled schema document errors pairs
      → IsCleanWhere rules.first_stage.find_nothing → (errors ≡ []) ↔ IsRootValid rules disabled schema document
  root_valid limit disabled errors pairs r clean =
      let valid = none_iff rules clean schema untyped document [] r.reported.of_rules pairs refl r.reported.reported in
      let asked = asked_none disabled (scope_of schema document) untyped document r.reported.asked r.reported.introspected in
      let told : r.found ≡ r.reported.of_rules ++ r.reported.asked = r.reported.all in (
        λ e.
            let none_found : r.reported.of_rules ++ r.reported.asked ≡ [] = sym told ∙ permuted_none _ (IsPermutation-sym _ _ (subst (λ z. IsPermutation r.found z) e r.ordered)) in
            (valid.0 (left_none _ _ none_found), asked.0 (right_none _ _ none_found)),
        λ (v, h).
            let none_told : r.found ≡ [] = told ∙ ap (λ zs. zs ++ r.reported.asked) (valid.1 v) ∙ asked.1 h in
            permuted_none _ (subst (λ z. IsPermutation z errors) none_told r.ordered),
      )

  pub root_valid_up_to : (limit : ℕ) (disabled : Bool) (errors : List ErrorValue) (pairs : ℕ)
      → IsRootReportUpTo rules limit disabled schema document errors pairs → IsCleanWhere rules.first_stage.find_nothing
      → (errors ≡ []) ↔ IsRootValid rules disabled schema document
  root_valid_up_to limit disabled errors pairs r clean =
      let valid = root_valid limit disabled r.report pairs r.reported clean in (
        λ e.
            let none_kept = permuted_none _ (IsPermutation-sym _ _ (subst (λ z. IsPermutation (fitting limit 0 r.report) z) e r.kept)) in
            valid.0 (none_fits limit 0 r.report (first_place limit) none_kept),
        λ v.
            let none_kept : fitting limit 0 r.report ≡ [] = ap (fitting limit 0) (valid.1 v) in
            permuted_none _ (subst (λ z. IsPermutation z errors) none_kept r.kept),
      )
