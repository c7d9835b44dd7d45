-- Laws of values that conform, and of the errors for those that do not.
use Rattle.std.specs.Prelude.{◌≡◌, ◌↔◌, ℕ, List, [], Contains, Option, Some, IsPermutation, IsSorted, reverse}
use Rattle.std.specs.BTreeMap.{get_by_text}
use Rattle.language.specs.declared.tree.Operation.{Operation}
use Rattle.language_values.specs.declared.value.InputValue.{InputValue}
use Rattle.language_types.specs.Types.{TypeShape, shape}
use Rattle.meta.specs.Answers.{Answers, Accepts}
use Rattle.schema.specs.Catalog.{Catalog}
use Rattle.events.specs.Node.{VariableEntry}
use Rattle.walk.specs.ErrorValue.{ErrorValue, error_cmp}
use Rattle.variable_values.specs.Asks.{Asks}
use Rattle.variable_values.specs.Faults.{Fault, Faults}
use Rattle.variable_values.specs.Inputs.{definitions_of}
use Rattle.variable_values.specs.Messages.{OfOperation, Values}
use Rattle.variable_values_laws.specs.Conforms.{Conforms, VariablesConform}

module _ {S C : Type 0} (schema : Catalog S C) (may : Answers (InputValue S) C) (text : S → List ℕ) (str_of : S → Option (List ℕ)) where
  -- a value has no faults if and only if it conforms
  abbrev pub FaultlessIffConforms : Type 0
  FaultlessIffConforms =
      (value : InputValue S) (t : TypeShape) → Faults schema may text str_of value t []
      ↔ Conforms schema may str_of (Some value) t

  -- the list of a value's faults is empty if and only if it conforms
  abbrev pub NoneIffConforms : Type 0
  NoneIffConforms = (value : InputValue S) (t : TypeShape) (fs : List Fault) → Faults schema may text str_of value t fs
      → (fs ≡ []) ↔ Conforms schema may str_of (Some value) t

  -- an operation has one list of errors
  abbrev pub OneListOfErrors : Type 0
  OneListOfErrors = (values : Values S) (o : Operation S) (es fs : List ErrorValue)
      → OfOperation schema may text str_of values o es → OfOperation schema may text str_of values o fs → es ≡ fs

  -- it is empty if and only if the values of all variables conform
  abbrev pub NoErrorIffConform : Type 0
  NoErrorIffConform = (values : Values S) (o : Operation S) (es : List ErrorValue)
      → OfOperation schema may text str_of values o es → (es ≡ []) ↔ VariablesConform schema may str_of values o

  -- where they conform, each check that is asked accepts what it is asked of
  abbrev pub AcceptedWhereConform : Type 0
  AcceptedWhereConform = (values : Values S) (o : Operation S) (d : VariableEntry S) (value : InputValue S) (c : C) (inner : InputValue S)
      → VariablesConform schema may str_of values o → Contains (definitions_of o) d → get_by_text values d.0.item.now ≡ Some value
      → Asks schema value (reverse (shape d.1.var_type.item).modifiers) (shape d.1.var_type.item).name c inner → Accepts may c inner

  -- what `validate_input_values` may return: the errors of the operation, in ascending order
  pub record IsAnswer (values : Values S) (o : Operation S) (errors : List ErrorValue) : Type 0 where
    pub faults : (es : List ErrorValue) × OfOperation schema may text str_of values o es × IsPermutation es errors
    pub sorted : IsSorted error_cmp errors

  -- it may return one list, which is empty if and only if the values of all variables conform
  abbrev pub OneSortedAnswer : Type 0
  OneSortedAnswer = (values : Values S) (o : Operation S) (es fs : List ErrorValue) → IsAnswer values o es → IsAnswer values o fs → es ≡ fs

  abbrev pub EmptyIffConform : Type 0
  EmptyIffConform = (values : Values S) (o : Operation S) (es : List ErrorValue) → IsAnswer values o es → (es ≡ [])
      ↔ VariablesConform schema may str_of values o
