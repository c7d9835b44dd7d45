-- What is reported by the rules of a dialect that is known otherwise.
use Rattle.std.proofs.Common.{◌≡◌, ℕ, List, Bool, subst}
use Rattle.language.specs.declared.tree.Definition.{Definition}
use Rattle.schema.specs.Catalog.{Catalog}
use Rattle.schema.specs.declared.model.dialect.Dialect.{Dialect}
use Rattle.walk.specs.ContextState.{ContextState}
use Rattle.walk.specs.ErrorValue.{ErrorValue}
use Rattle.validation.specs.Dialects.{by_dialect}
use Rattle.validation.specs.RootRules.{IsRootReport}
use Rattle.validation.specs.Stages.{Rules}
use Rattle.validation.proofs.Reports.{Tells}

module _ {S C : Type 0} (of_juniper of_october : Rules S C) (one other : Dialect) (document : List (Definition S)) (same : one ≡ other) where
  pub told_by : (old new : ContextState S C) (pairs : ℕ) → Tells (by_dialect of_juniper of_october one) document old new pairs → Tells (by_dialect of_juniper of_october other) document old new pairs
  told_by old new pairs = subst (λ d. Tells (by_dialect of_juniper of_october d) document old new pairs) same

  pub reported_by : (limit : ℕ) (disabled : Bool) (schema : Catalog S C) (errors : List ErrorValue) (pairs : ℕ)
      → IsRootReport (by_dialect of_juniper of_october one) limit disabled schema document errors pairs
      → IsRootReport (by_dialect of_juniper of_october other) limit disabled schema document errors pairs
  reported_by limit disabled schema errors pairs = subst (λ d. IsRootReport (by_dialect of_juniper of_october d) limit disabled schema document errors pairs) same
