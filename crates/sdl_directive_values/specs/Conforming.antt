-- A type system document whose directives are given values that conform to their types (sections 3.13 and 5.6.1).
use Rattle.std.specs.Prelude.{ℕ, List, None}
use Rattle.std.specs.List.{All}
use Rattle.graphql_reader.specs.declared.type_system.TypeSystemDefinition.{TypeSystemDefinition}
use Rattle.language_values.specs.declared.value.InputValue.{InputValue}
use Rattle.literals.specs.Judged.{WrittenFault}
use Rattle.meta.specs.Answers.{Answers}
use Rattle.schema.specs.Catalog.{Catalog}
use Rattle.sdl_directive_values.specs.Given.{GivenAt, document_values}
use Rattle.sdl_scalars.specs.declared.check.SourceCheck.{SourceCheck}
use Rattle.sdl_scalars.specs.declared.scalar.SourceScalar.{SourceScalar}

module _ (schema : Catalog SourceScalar SourceCheck) (may : Answers (InputValue SourceScalar) SourceCheck)
    (shown : InputValue SourceScalar → List ℕ) where
  -- the value has no fault against its type
  abbrev pub IsConforming : GivenAt → Type 0
  IsConforming d = WrittenFault schema may shown d.value d.expected None

  -- each has none, of the directives that a document defines and of those that another one does
  abbrev pub HasConformingValues : List TypeSystemDefinition → List TypeSystemDefinition → Type 0
  HasConformingValues document standard = All IsConforming (document_values document standard)
