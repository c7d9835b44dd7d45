-- Schemas of which nothing is told (section 3).
use Rattle.std.specs.Prelude.{List}
use Rattle.graphql_reader.specs.declared.type_system.TypeSystemDefinition.{TypeSystemDefinition}
use Rattle.language_values.specs.ValuesPrinted.{printed_value}
use Rattle.sdl_directive_circles.specs.Circles.{HasNoDirectiveCircle}
use Rattle.sdl_directive_values.specs.Conforming.{HasConformingValues}
use Rattle.sdl_directives.specs.Right.{HasRightDirectives}
use Rattle.sdl_scalars.specs.Checks.{MayAnswer}
use Rattle.sdl_scalars.specs.SourceScalar.{source_str, source_text}
use Rattle.type_system_circles.specs.Named.{IsNamedCircle}
use Rattle.type_system_inputs.specs.Inputs.{FieldName, Requires}
use Rattle.type_system_validity.specs.Valid.{IsValidTypeSystem}
use Rattle.sdl_faults.specs.Schema.{SourceSchema}

-- no input object leads back to itself by required fields
abbrev pub HasNoInputCircle : SourceSchema → Type 0
HasNoInputCircle schema = (fs : List FieldName) → IsNamedCircle (λ (f : FieldName). f.of) (Requires schema.types) fs → ⊥

-- a schema is a valid type system
pub record IsValidSchema (schema : SourceSchema) : Type 0 where
  pub system : IsValidTypeSystem schema MayAnswer (printed_value source_text source_str)
  pub circles : HasNoInputCircle schema

-- so is one that was read from a document whose directives are used rightly, by those that it and another one define
pub record IsValidText (document standard : List TypeSystemDefinition) (schema : SourceSchema) : Type 0 where
  pub valid : IsValidSchema schema
  pub directives : HasRightDirectives document standard
  pub values : HasConformingValues schema MayAnswer (printed_value source_text source_str) document standard
  pub circles : HasNoDirectiveCircle document
