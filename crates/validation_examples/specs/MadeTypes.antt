-- What is said of a value against a type that a schema makes.
use Rattle.std.specs.Prelude.{◌≡◌, ℕ, List, Option, Some, None, codes, unwrap_or}
use Rattle.language_values.specs.declared.value.InputValue.{InputValue}
use Rattle.meta.specs.Answers.{Answers}
use Rattle.schema.specs.Catalog.{Catalog}
use Rattle.schema.specs.Wrapped.{WrappedMeta}
use Rattle.literals.specs.Judged.{Judged}

module _ {S C : Type 0} (may : Answers (InputValue S) C) (shown : InputValue S → List ℕ) (schema : Catalog S C) (value : InputValue S) where
  -- `unknown type` where the schema has no such type; else the value's fault, or `none` where it conforms
  abbrev pub SaysFault : Option (WrappedMeta S C) → List ℕ → Type 0
  SaysFault None said = said ≡ codes "unknown type"
  SaysFault (Some w) said = (fault : Option (List ℕ)) × Judged schema may shown value w fault × (said ≡ unwrap_or fault (codes "none"))
