-- What is said of the values of variables once their document was validated.
use Rattle.std.specs.Prelude.{◌≡◌, ◌⊎◌, ℕ, List, ◌∷◌, Option, Some, None}
use Rattle.language_types.specs.declared.position.Span.{Span}
use Rattle.language_types.specs.declared.position.Spanning.{Spanning}
use Rattle.language.specs.declared.tree.Definition.{Definition}
use Rattle.language.specs.declared.tree.Definition.TheVariants as definition
use Rattle.language.specs.declared.tree.Operation.{Operation}
use Rattle.language_values.specs.declared.value.InputValue.{InputValue}
use Rattle.meta.specs.Answers.{Answers}
use Rattle.schema.specs.Catalog.{Catalog}
use Rattle.events.specs.Typing.{untyped}
use Rattle.walk.specs.ContextState.{scope_of}
use Rattle.walk.specs.ErrorValue.{ErrorValue}
use Rattle.variable_values.specs.Messages.{OfOperation, Values}
use Rattle.validation.specs.Stages.{IsValid, Rules}
use Rattle.validation_examples.specs.Told.{InOrder}

-- the operation that a document begins with
abbrev pub first_operation : {S : Type 0} → List (Definition S) → Option (Spanning (Operation S) Span)
first_operation (definition.Operation o ∷ rest) = Some o
first_operation _ = None

module _ {S C : Type 0} (rules : Rules S C) (may : Answers (InputValue S) C) (text : S → List ℕ)
    (str_of : S → Option (List ℕ)) (schema : Catalog S C) (document : List (Definition S)) where
  -- the document is valid
  abbrev pub ValidDocument : Type 0
  ValidDocument = IsValid rules (scope_of schema document) untyped document

  -- the document is valid and begins with an operation, and these are the faults of the values for its variables
  pub record FaultsAfter (values : Values S) (errors : List ErrorValue) : Type 0 where
    pub valid : ValidDocument
    pub operation : Spanning (Operation S) Span
    pub first : first_operation document ≡ Some operation
    pub found : List ErrorValue
    pub faults : OfOperation schema may text str_of values operation.item found
    pub in_order : InOrder found errors

  -- the document isn't valid, or begins with no operation
  abbrev pub NothingToJudge : Type 0
  NothingToJudge = (ValidDocument → ⊥) ⊎ (first_operation document ≡ None)
