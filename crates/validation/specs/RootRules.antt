-- What is reported of the documents that are sent to a root node (section 4.1).
use Rattle.std.specs.Prelude.{◌≡◌, Bool, true, false, ℕ, List, [], ◌++◌, IsPermutation}
use Rattle.language.specs.declared.tree.Definition.{Definition}
use Rattle.schema.specs.Catalog.{Catalog}
use Rattle.events.specs.Typing.{Typing, untyped}
use Rattle.walk.specs.ContextState.{ContextState, DocumentScope, fitting, scope_of, typing, with_errors}
use Rattle.walk.specs.Entering.{everywhere, found}
use Rattle.walk.specs.ErrorValue.{ErrorValue}
use Rattle.walk.specs.Rule.{Allowance, exactly, nothing}
use Rattle.rules_fields.specs.DisableIntrospection.{introspection_fields, AsksNoSchema}
use Rattle.validation.specs.Stages.{IsValid, Reported, Rules}

module _ {S C : Type 0} where
  -- the fields that ask for the schema itself, where introspection is disabled
  abbrev pub introspection : Bool → Allowance S C
  introspection true = exactly (found introspection_fields)
  introspection false = nothing

module _ {S C : Type 0} (rules : Rules S C) where
  -- the errors of all rules, and then those of the rule on introspection, with the number of pairs that were compared
  pub record RootReported (limit : ℕ) (disabled : Bool) (before : List ErrorValue) (scope : DocumentScope S C)
      (t : Typing S C) (doc : List (Definition S)) (es : List ErrorValue) (pairs : ℕ) : Type 0 where
    pub of_rules : List ErrorValue
    pub reported : Reported rules limit before scope t doc of_rules pairs
    pub asked : List ErrorValue
    pub introspected : introspection disabled scope t doc asked
    pub all : es ≡ of_rules ++ asked

  -- these errors were appended, at the types of the context
  abbrev pub AppendsRootReported : Bool → ContextState S C → ContextState S C → List (Definition S) → ℕ → Type 0
  AppendsRootReported disabled old new doc pairs =
      (es : List ErrorValue) × RootReported old.limit disabled old.errors (scope_of old.schema doc) (typing old) doc es pairs
      × (new ≡ with_errors old es)

  -- these errors are reported of a document where so many are kept, or all for 0, in any order
  pub record IsRootReport (limit : ℕ) (disabled : Bool) (schema : Catalog S C) (document : List (Definition S))
      (errors : List ErrorValue) (pairs : ℕ) : Type 0 where
    pub found : List ErrorValue
    pub reported : RootReported limit disabled [] (scope_of schema document) untyped document found pairs
    pub ordered : IsPermutation found errors

  -- so many of the errors of a report, or all for 0
  pub record IsRootReportUpTo (limit : ℕ) (disabled : Bool) (schema : Catalog S C) (document : List (Definition S))
      (errors : List ErrorValue) (pairs : ℕ) : Type 0 where
    pub report : List ErrorValue
    pub reported : IsRootReport limit disabled schema document report pairs
    pub kept : IsPermutation (fitting limit 0 report) errors

  -- the document is valid, and where introspection is disabled no field asks for the schema
  abbrev pub IsRootValid : Bool → Catalog S C → List (Definition S) → Type 0
  IsRootValid disabled schema document =
      let scope = scope_of schema document in
      IsValid rules scope untyped document × (disabled ≡ true → everywhere (λ known o. AsksNoSchema o.node) scope untyped document)
