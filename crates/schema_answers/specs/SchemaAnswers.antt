-- What is told of the texts of a schema.
use Rattle.std.specs.Prelude.{◌≡◌, ◌<◌, ℕ, List, [], length, string_bytes}
use Rattle.std.specs.Str.{IsUtf8}
use Rattle.answers.specs.Reports.{IsNotUtf8}
use Rattle.lint_sources.specs.declared.faults.Fault.{Fault}
use Rattle.lint_report.specs.Json.{json_text}
use Rattle.schema.specs.declared.model.dialect.Dialect.{Dialect}
use Rattle.schema_answers.specs.declared.schemas.SchemaAnswer.{SchemaAnswer}
use Rattle.schema_answers.specs.declared.schemas.SchemaAnswer.TheVariants as answer
use Rattle.sdl_faults.specs.Schema.{SourceSchema}
use Rattle.sdl_faults.specs.Valid.{IsValidSchema}

-- the report has faults, at least one
abbrev pub HasFaults : List ℕ → Type 0
HasFaults report = (faults : List Fault) × (0 < length faults) × (report ≡ json_text faults [] [])

-- a schema is a valid type system in this dialect
pub record IsSchemaIn (dialect : Dialect) (schema : SourceSchema) : Type 0 where
  pub valid : IsValidSchema schema
  pub dialect_is : schema.dialect ≡ dialect

-- what is told of a text: the schema, or faults
abbrev pub IsTextAnswer : Dialect → SchemaAnswer → Type 0
IsTextAnswer dialect (answer.Schema schema) = IsSchemaIn dialect schema
IsTextAnswer dialect (answer.Faults report) = HasFaults (string_bytes report)
IsTextAnswer dialect (answer.NotUtf8 report) = ⊥

-- what is told of bytes
abbrev pub IsSchemaAnswer : List ℕ → Dialect → SchemaAnswer → Type 0
IsSchemaAnswer bytes dialect (answer.Schema schema) = IsUtf8 bytes × IsSchemaIn dialect schema
IsSchemaAnswer bytes dialect (answer.Faults report) = IsUtf8 bytes × HasFaults (string_bytes report)
IsSchemaAnswer bytes dialect (answer.NotUtf8 report) = IsNotUtf8 bytes (string_bytes report)
