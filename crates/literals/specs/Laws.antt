-- Laws of faults.
use Rattle.std.specs.Prelude.{◌≡◌, ◌⊎◌, ℕ, List, Option, Result}
use Rattle.language_types.specs.declared.error.CheckError.{CheckError}
use Rattle.language_values.specs.declared.value.InputValue.{InputValue}
use Rattle.meta.specs.Answers.{Answers, Accepts, RefusesWith, SameAnswer}
use Rattle.schema.specs.Catalog.{Catalog}
use Rattle.schema.specs.Wrapped.{WrappedMeta}
use Rattle.literals.specs.InSchema.{IsInSchema}
use Rattle.literals.specs.Judged.{Judged}

module _ {S C : Type 0} where
  -- any two answers of a check to one value are the same, unless one of them ran out of memory
  abbrev pub OneAnswer : Answers (InputValue S) C → Type 0
  OneAnswer may = (c : C) (value : InputValue S) (r s : Result (Unit {0}) CheckError) → may c value r → may c value s → SameAnswer r s

  -- each check accepts or refuses each value
  abbrev pub AnswersAll : Answers (InputValue S) C → Type 0
  AnswersAll may = (c : C) (value : InputValue S) → Accepts may c value ⊎ ((m : List ℕ) × RefusesWith may c value m)

  module _ (schema : Catalog S C) (may : Answers (InputValue S) C) (shown : InputValue S → List ℕ) where
    -- at most one fault, or none, is that of a value against a type
    abbrev pub OneFault : Type 0
    OneFault = (value : InputValue S) (w : WrappedMeta S C) (f g : Option (List ℕ)) → Judged schema may shown value w f
        → Judged schema may shown value w g → f ≡ g

    -- and one is, against each type of the schema
    abbrev pub SomeFault : Type 0
    SomeFault = (value : InputValue S) (w : WrappedMeta S C) → IsInSchema schema w → (f : Option (List ℕ))
        × Judged schema may shown value w f
