-- What is reported of a document in a context that was made for it.
use Rattle.std.proofs.Common.{◌≡◌, ◌∙◌, ◌++◌, ℕ, List, [], Bool, false, IsPermutation, refl, subst, ap}
use Rattle.std.proofs.lemmas.List.{append-nil}
use Rattle.std.proofs.lemmas.List.Sorted.{IsPermutation-refl, IsPermutation-trans}
use Rattle.std.specs.Global.{Global}
use Rattle.language.specs.declared.tree.Definition.{Definition}
use Rattle.schema.specs.Catalog.{Catalog}
use Rattle.walk.specs.ContextState.{ContextState, IsMadeFor, fitting, fresh_context, limited, scope_of, typing, with_errors}
use Rattle.walk.specs.ErrorValue.{ErrorValue, shares}
use Rattle.walk.specs.Rule.{Appended, AppendsAllowed, Collection, any_value, exactly, nothing, together}
use Rattle.walk.specs.Step.{KeepsPlace}
use Rattle.walk.proofs.Kept.{fitting_all, with_more, with_none}
use Rattle.rules_document.specs.AtDocument.{given_at_end}
use Rattle.rules_merge.specs.declared.overlapping_fields_can_be_merged.OverlappingFieldsCanBeMerged.{OverlappingFieldsCanBeMerged}
use Rattle.rules_merge.specs.OverlappingFieldsCanBeMerged.{MergeErrors, merge_errors}
use Rattle.validation.specs.Stages.{AppendsReported, Rules}
use Rattle.validation.specs.RootRules.{AppendsRootReported, IsRootReport, IsRootReportUpTo, RootReported, introspection}
use Rattle.validation.proofs.Stages.{merge_permuted}

module _ {S C : Type 0} (rules : Rules S C) (document : List (Definition S)) where
  -- what every rule appends in a context
  abbrev pub Tells : ContextState S C → ContextState S C → ℕ → Type 0
  Tells old new pairs = IsMadeFor old document → AppendsReported rules old new document pairs

  -- and with the rule on introspection
  abbrev pub RootTells : Bool → ContextState S C → ContextState S C → ℕ → Type 0
  RootTells disabled old new pairs = IsMadeFor old document → AppendsRootReported rules disabled old new document pairs

  -- in a context that was fresh, but for a limit, as much is kept of a report
  pub told_up_to : (limit : ℕ) (disabled : Bool) (alloc : Global) (schema : Catalog S C) (old new : ContextState S C) (errors : List ErrorValue) (pairs : ℕ)
      → old ≡ limited (fresh_context alloc schema document) limit → RootTells disabled old new pairs → IsPermutation new.errors errors
      → IsRootReportUpTo rules limit disabled schema document errors pairs
  told_up_to limit disabled alloc schema old new errors pairs fresh tells sorted =
      let (es, told, appended) = tells (ap (λ w. w.known) fresh) in
      let Of : ContextState S C → Type 0 = λ w. RootReported rules w.limit disabled w.errors (scope_of w.schema document) (typing w) document es pairs in
      let kept : new.errors ≡ fitting limit 0 es = ap (λ w. w.errors) appended ∙ ap (λ w. w.errors ++ fitting w.limit (shares w.errors) es) fresh in
      record {
        report = es;
        reported = record { found = es; reported = subst Of fresh told; ordered = IsPermutation-refl es };
        kept = subst (λ zs. IsPermutation zs errors) kept sorted;
      }

  -- in a fresh context it is all that is reported, in whatever order
  pub told_all : (disabled : Bool) (alloc : Global) (schema : Catalog S C) (old new : ContextState S C) (errors : List ErrorValue) (pairs : ℕ)
      → old ≡ fresh_context alloc schema document → RootTells disabled old new pairs → IsPermutation new.errors errors
      → IsRootReport rules 0 disabled schema document errors pairs
  told_all disabled alloc schema old new errors pairs fresh tells sorted =
      let told = told_up_to 0 disabled alloc schema old new errors pairs fresh tells sorted in
      record {
        found = told.reported.found;
        reported = told.reported.reported;
        ordered = IsPermutation-trans _ _ _ told.reported.ordered (subst (λ zs. IsPermutation zs errors) (fitting_all 0 told.report) told.kept);
      }

  -- first every rule, and then that on introspection
  pub told_more : (disabled : Bool) (old mid new : ContextState S C) (pairs : ℕ) → Tells old mid pairs
      → (IsMadeFor mid document → AppendsAllowed (introspection disabled) document mid new)
      → RootTells disabled old new pairs
  told_more disabled old mid new pairs tells more known =
      let (es, reported, appended) = tells known in
      let After : ContextState S C → Type 0 = λ w. AppendsAllowed (introspection disabled) document w new in
      let (fs, asked, both) = subst After appended (more (ap (λ w. w.known) appended ∙ known)) in
      (es ++ fs, record { of_rules = es; reported = reported; asked = fs; introspected = asked; all = refl }, both ∙ with_more old es fs)

module _ {S C : Type 0} (E : S → S → Bool) (document : List (Definition S)) where
  -- the rule on fields that can be merged, which was alone in its list, in a fresh context
  pub merging_told : (alloc : Global) (schema : Catalog S C) (old new : ContextState S C) (end : OverlappingFieldsCanBeMerged) (errors : List ErrorValue)
      → old ≡ fresh_context alloc schema document
      → (IsMadeFor old document → AppendsAllowed (together (given_at_end (merge_errors E) end) nothing) document old new)
      → IsPermutation new.errors errors → MergeErrors E schema document end errors
  merging_told alloc schema old new end errors fresh tells sorted =
      let (es, (fs, gs, told, none_else, p), appended) = tells (ap (λ w. w.known) fresh) in
      let same : new.errors ≡ es = ap (λ w. w.errors) appended ∙ ap (λ w. w.errors ++ fitting w.limit (shares w.errors) es) fresh ∙ fitting_all 0 es in
      merge_permuted E schema document end fs gs errors (subst (λ w. MergeErrors E w.schema document end fs) fresh told) none_else (IsPermutation-trans _ _ _ p (subst (λ zs. IsPermutation zs errors) same sorted))

module _ {S C : Type 0} where
  -- errors alone were appended, and then others
  pub only_more : (old mid new : ContextState S C) → Appended any_value old mid → Appended any_value mid new → Appended any_value old new
  only_more old mid new (es, u, e) (fs, v, d) =
      (es ++ fs, tt, d ∙ ap (λ w. with_errors w fs) e ∙ with_more old es fs)

  -- errors alone were appended, and then a call failed
  pub kept_place : (old mid new : ContextState S C) → Appended any_value old mid → KeepsPlace mid new → KeepsPlace old new
  kept_place old mid new (es, u, e) kept = record {
    allocator = kept.allocator ∙ ap (λ w. w.allocator) e;
    schema = kept.schema ∙ ap (λ w. w.schema) e;
    known = kept.known ∙ ap (λ w. w.known) e;
    typings = kept.typings ∙ ap (λ w. w.typings) e;
    stays = λ failed. kept.stays (ap (λ w. w.failed) e ∙ failed);
  }

  -- a rule with a collection that is alone in its list
  pub appended_alone : (collection : Collection S C) (document : List (Definition S)) (old new : ContextState S C)
      → AppendsAllowed (together (exactly collection) nothing) document old new
      → AppendsAllowed (exactly collection) document old new
  appended_alone collection document old new (es, (fs, gs, p, none_else, q), e) =
      let all : fs ++ gs ≡ fs = ap (λ z. fs ++ z) none_else ∙ append-nil fs in
      (es, IsPermutation-trans _ _ _ p (subst (λ z. IsPermutation z es) all q), e)

  -- no rule appends nothing
  pub none_appended : (document : List (Definition S)) (old : ContextState S C) → AppendsAllowed (introspection false) document old old
  none_appended document old = ([], refl, with_none old)
