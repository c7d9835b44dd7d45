-- What is told of a document.
use Rattle.std.specs.Prelude.{◌≡◌, Bool, ℕ, List, [], ◌∷◌, ◌++◌, Option, IsPermutation, IsSorted}
use Rattle.std.specs.List.{flat_map}
use Rattle.language.specs.declared.tree.Definition.{Definition}
use Rattle.language.specs.declared.tree.Operation.{Operation}
use Rattle.language_values.specs.declared.value.InputValue.{InputValue}
use Rattle.rules_merge.specs.declared.overlapping_fields_can_be_merged.OverlappingFieldsCanBeMerged.{OverlappingFieldsCanBeMerged}
use Rattle.rules_merge.specs.OverlappingFieldsCanBeMerged.{MergeErrors}
use Rattle.meta.specs.Answers.{Answers}
use Rattle.schema.specs.Catalog.{Catalog}
use Rattle.validation.specs.RootRules.{IsRootReportUpTo}
use Rattle.validation.specs.Stages.{Rules}
use Rattle.variable_values.specs.Messages.{OfOperation, Values}
use Rattle.walk.specs.ErrorValue.{ErrorValue, error_cmp, printed_error}

-- each error on a line
abbrev pub error_lines : List ErrorValue → List ℕ
error_lines errors = flat_map (λ e. printed_error e ++ 10 ∷ []) errors

-- a text tells these errors, a line each, in ascending order
pub record Tells (errors : List ErrorValue) (text : List ℕ) : Type 0 where
  pub sorted : IsSorted error_cmp errors
  pub written : text ≡ error_lines errors

-- a text tells what every rule reports of a document, that on introspection among them where it is closed, up to a
-- limit
pub record TellsErrors {S C : Type 0} (rules : Rules S C) (limit : ℕ) (closed : Bool) (schema : Catalog S C)
    (document : List (Definition S)) (text : List ℕ) : Type 0 where
  pub errors : List ErrorValue
  pub tells : Tells errors text
  pub compared : ℕ
  pub all : IsRootReportUpTo rules limit closed schema document errors compared

-- a text tells which fields of a document can't be merged, and nothing else
pub record TellsConflicts {S C : Type 0} (E : S → S → Bool) (schema : Catalog S C) (document : List (Definition S))
    (text : List ℕ) : Type 0 where
  pub errors : List ErrorValue
  pub tells : Tells errors text
  pub end : OverlappingFieldsCanBeMerged
  pub all : MergeErrors E schema document end errors

-- a text tells the faults of the values that are given for an operation's variables
pub record TellsFaults {S C : Type 0} (schema : Catalog S C) (may : Answers (InputValue S) C) (shown : S → List ℕ)
    (str_of : S → Option (List ℕ)) (values : Values S) (operation : Operation S) (text : List ℕ) : Type 0 where
  pub errors : List ErrorValue
  pub tells : Tells errors text
  pub found : List ErrorValue
  pub all : OfOperation schema may shown str_of values operation found
  pub ordered : IsPermutation found errors
