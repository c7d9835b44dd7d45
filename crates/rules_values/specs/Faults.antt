-- Errors at values that do not conform to a type.
use Rattle.std.specs.Prelude.{◌≡◌, ℕ, List, [], ◌∷◌, Option, Some, None}
use Rattle.language_values.specs.declared.value.InputValue.{InputValue}
use Rattle.language_types.specs.Types.{TypeShape}
use Rattle.meta.specs.Answers.{Answers}
use Rattle.schema.specs.Catalog.{Catalog}
use Rattle.literals.specs.Judged.{WrittenFault}
use Rattle.events.specs.Node.{Placed}
use Rattle.walk.specs.ErrorValue.{ErrorValue}

module _ {S : Type 0} where
  -- an error at the value
  abbrev pub error_at : Placed (InputValue S) → List ℕ → List ErrorValue
  error_at value message = record { locations = value.span.start ∷ []; message = message } ∷ []

  -- an error at the value, if it has a fault, by a message that says the fault
  abbrev pub faulty : (List ℕ → List ℕ) → Placed (InputValue S) → Option (List ℕ) → List ErrorValue
  faulty message value None = []
  faulty message value (Some fault) = error_at value (message fault)

module _ {S C : Type 0} (may : Answers (InputValue S) C) (shown : InputValue S → List ℕ) where
  -- what is reported of a value where a type is expected, or where no type is
  abbrev pub reported : Catalog S C → (List ℕ → List ℕ) → Option TypeShape → Placed (InputValue S) → List ErrorValue → Type 0
  reported schema message None value es = es ≡ []
  reported schema message (Some t) value es =
      (fault : Option (List ℕ)) × WrittenFault schema may shown value.item t fault × (es ≡ faulty message value fault)
