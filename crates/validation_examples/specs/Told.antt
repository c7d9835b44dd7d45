-- What is told of a document.
use Rattle.std.specs.Prelude.{◌≡◌, ℕ, List, [], ◌∷◌, ◌++◌, IsPermutation, IsSorted}
use Rattle.std.specs.Fmt.{decimal}
use Rattle.std.specs.List.{flat_map}
use Rattle.language.specs.declared.tree.Definition.{Definition}
use Rattle.schema.specs.Catalog.{Catalog}
use Rattle.events.specs.TypedEvent.{typed_events}
use Rattle.events.specs.Typing.{untyped}
use Rattle.walk.specs.ContextState.{scope_of}
use Rattle.walk.specs.ErrorValue.{ErrorValue, error_cmp, printed_error}
use Rattle.walk.specs.Step.{Run, StepOf}
use Rattle.validation.specs.Stages.{Reported, Rules}

-- each error, and the end of its line
abbrev pub error_lines : List ErrorValue → List ℕ
error_lines errors = flat_map (λ e. printed_error e ++ 10 ∷ []) errors

-- the errors that were found, each as often as it was, in ascending order
pub record InOrder (found errors : List ErrorValue) : Type 0 where
  pub all : IsPermutation found errors
  pub sorted : IsSorted error_cmp errors

-- a text tells what all rules report of a document, and then how many pairs were compared
pub record TellsAll {S C : Type 0} (rules : Rules S C) (schema : Catalog S C) (document : List (Definition S))
    (text : List ℕ) : Type 0 where
  pub found : List ErrorValue
  pub compared : ℕ
  pub reported : Reported rules 0 [] (scope_of schema document) untyped document found compared
  pub errors : List ErrorValue
  pub in_order : InOrder found errors
  pub written : text ≡ error_lines errors ++ decimal compared

-- a text tells what a visitor reports that hears of every event of a document
pub record TellsVisit {S C V : Type 0} (step : StepOf S C V) (start : V) (schema : Catalog S C)
    (document : List (Definition S)) (text : List ℕ) : Type 0 where
  pub end : V
  pub found : List ErrorValue
  pub heard : Run (step (scope_of schema document)) (typed_events schema untyped document) start end found
  pub errors : List ErrorValue
  pub in_order : InOrder found errors
  pub written : text ≡ error_lines errors
