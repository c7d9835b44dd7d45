-- A type system whose default values conform to their types (sections 3.6.1, 3.10 and 3.13).
use Rattle.std.specs.Prelude.{ℕ, List, None}
use Rattle.std.specs.List.{All}
use Rattle.language_values.specs.declared.value.InputValue.{InputValue}
use Rattle.meta.specs.Answers.{Answers}
use Rattle.schema.specs.Catalog.{Catalog}
use Rattle.literals.specs.Judged.{WrittenFault}
use Rattle.type_system_defaults.specs.Given.{Given, directive_defaults, type_defaults}

module _ {S C : Type 0} (schema : Catalog S C) (may : Answers (InputValue S) C) (shown : InputValue S → List ℕ) where
  -- the default value has no fault against its type
  abbrev pub IsConforming : Given S → Type 0
  IsConforming d = WrittenFault schema may shown d.value d.expected None

  -- Each default value has none, in the types and in the directives.
  pub record HasConformingDefaults : Type 0 where
    pub types : All (λ t. All IsConforming (type_defaults t)) schema.types
    pub directives : All (λ d. All IsConforming (directive_defaults d)) schema.directives
