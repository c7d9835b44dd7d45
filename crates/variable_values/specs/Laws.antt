-- Laws of faults.
use Rattle.std.specs.Prelude.{◌≡◌, ℕ, List, Option, Result}
use Rattle.language_types.specs.declared.error.CheckError.{CheckError}
use Rattle.language_values.specs.declared.value.InputValue.{InputValue}
use Rattle.language_types.specs.Types.{TypeShape}
use Rattle.meta.specs.Answers.{Answers, SameAnswer}
use Rattle.schema.specs.Catalog.{Catalog}
use Rattle.variable_values.specs.Faults.{Fault, Faults}

module _ {S C : Type 0} where
  -- a check always says the same of a value, unless it runs out of memory
  abbrev pub OneAnswer : Answers (InputValue S) C → Type 0
  OneAnswer may = (c : C) (value : InputValue S) (r s : Result (Unit {0}) CheckError) → may c value r → may c value s → SameAnswer r s

  -- a value has one list of faults against a type
  abbrev pub OneList : Catalog S C → Answers (InputValue S) C → (S → List ℕ) → (S → Option (List ℕ)) → Type 0
  OneList schema may text str_of =
      (value : InputValue S) (t : TypeShape) (fs gs : List Fault) → Faults schema may text str_of value t fs
      → Faults schema may text str_of value t gs → fs ≡ gs
