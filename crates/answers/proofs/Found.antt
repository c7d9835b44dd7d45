-- What the rules find in a document.
use Rattle.std.proofs.Common.{◌≡◌, ℕ, IsPermutation, IsSorted, List, ap, subst}
use Rattle.std.specs.Global.{Global}
use Rattle.answers.specs.Answers.{AreErrorsOf, Document, SourceCatalog, SourceRules}
use Rattle.answers.specs.declared.choices.Choices.{Choices}
use Rattle.rules_first_stage.specs.CleanStage.{IsCleanWhere}
use Rattle.sdl_scalars.specs.declared.check.SourceCheck.{SourceCheck}
use Rattle.sdl_scalars.specs.declared.scalar.SourceScalar.{SourceScalar}
use Rattle.validation.proofs.Reports.{Tells, told_more, told_up_to}
use Rattle.validation.proofs.Root.{root_valid_up_to}
use Rattle.validation.specs.RootRules.{introspection}
use Rattle.walk.specs.ContextState.{ContextState, IsMadeFor, fresh_context, limited}
use Rattle.walk.specs.ErrorValue.{ErrorValue, error_cmp}
use Rattle.walk.specs.Rule.{AppendsAllowed}

module _ (rules : SourceRules) (choices : Choices) (schema : SourceCatalog) (document : Document) where
  -- what the rules reported in a context that was fresh, but for its limit
  pub errors_told : (alloc : Global) (fresh mid new : ContextState SourceScalar SourceCheck) (pairs : ℕ) (errors : List ErrorValue)
      → fresh ≡ limited (fresh_context alloc schema document) choices.max_errors
      → Tells (rules fresh.schema.dialect) document fresh mid pairs
      → (IsMadeFor mid document → AppendsAllowed (introspection choices.is_closed) document mid new)
      → IsCleanWhere (rules schema.dialect).first_stage.find_nothing
      → IsPermutation new.errors errors → IsSorted error_cmp errors → AreErrorsOf rules choices schema document errors
  errors_told alloc fresh mid new pairs errors made told asked clean all sorted =
      let closed = choices.is_closed in
      let limit = choices.max_errors in
      let here = subst (λ d. Tells (rules d) document fresh mid pairs) (ap (λ w. w.schema.dialect) made) told in
      let both = told_more (rules schema.dialect) document closed fresh mid new pairs here asked in
      let report = told_up_to (rules schema.dialect) document limit closed alloc schema fresh new errors pairs made both all in
      record {
        pairs = pairs;
        reported = report;
        valid = root_valid_up_to (rules schema.dialect) schema document limit closed errors pairs report clean;
        sorted = sorted;
      }
