-- What calls answer, and what they leave in a handle.
use Rattle.std.specs.Prelude.{◌≡◌, ℕ, List, [], Option, Some, None, Result, Ok, Err, string_bytes}
use Rattle.language_types.specs.declared.error.OutOfMemory.{OutOfMemory}
use Rattle.std.specs.Str.{IsUtf8}
use Rattle.answers.specs.declared.reports.Answer.{Answer}
use Rattle.answers.specs.declared.reports.Verdict.TheVariants.{NotUtf8}
use Rattle.answers.specs.Reports.{IsNotUtf8}
use Rattle.schema.specs.declared.model.dialect.Dialect.{Dialect}
use Rattle.schema_answers.specs.SchemaAnswers.{HasFaults, IsSchemaIn}
use Rattle.schema_handle.specs.declared.calls.Copied.{Copied}
use Rattle.schema_handle.specs.declared.calls.Copied.TheVariants.{Whole, TooSmall, Nothing}
use Rattle.schema_handle.specs.declared.calls.Shared.{Shared}
use Rattle.schema_handle.specs.declared.calls.Shared.TheVariants as shared
use Rattle.schema_handle.specs.declared.slot.Held.{Held}
use Rattle.schema_handle.specs.Calls.{CopiesReport, Shares, SourceCatalog, report_in, report_of, schema_in, schema_of}
use Rattle.vorxindak.specs.Statuses.{already_open, closed, faulty_schema, out_of_memory, status_in, too_small, valid}

-- what is answered of the texts of a schema, and what a handle without a schema has then
pub data Opens (bytes : List ℕ) (dialect : Dialect) (status : ℕ) (new : Option Held) : Type 0 where
  opened : (schema : SourceCatalog) → status ≡ valid → IsUtf8 bytes → IsSchemaIn dialect schema
      → schema_in new ≡ Some schema → report_in new ≡ [] → Opens bytes dialect status new
  faulty : status ≡ faulty_schema → IsUtf8 bytes → schema_in new ≡ None → HasFaults (report_in new) → Opens bytes dialect status new
  no_text : status ≡ status_in NotUtf8 → schema_in new ≡ None → IsNotUtf8 bytes (report_in new) → Opens bytes dialect status new
  no_memory : status ≡ out_of_memory → new ≡ None → Opens bytes dialect status new

-- the same of any handle: one with a schema stays
abbrev pub OpensOnce : List ℕ → Dialect → ℕ → Option SourceCatalog → Option Held → Option Held → Type 0
OpensOnce bytes dialect status None old new = Opens bytes dialect status new
OpensOnce bytes dialect status (Some schema) old new = (status ≡ already_open) × (new ≡ old)

-- what is answered of a document, by what holds of an answer, with the report that is left; or memory ran out
pub data Tells (P : Answer → Type 0) (status : ℕ) (report : List ℕ) : Type 0 where
  of_answer : (answer : Answer) → P answer → status ≡ status_in answer.verdict → report ≡ string_bytes answer.report → Tells P status report
  of_no_memory : status ≡ out_of_memory → report ≡ [] → Tells P status report

-- what is told by the schema of what is held, if there is one: the schema stays, and without one all of it
abbrev pub TellsBy : (SourceCatalog → Answer → Type 0) → ℕ → Option SourceCatalog → Held → Held → Type 0
TellsBy P status None old new = (status ≡ closed) × (new ≡ old)
TellsBy P status (Some schema) old new = (schema_of new ≡ Some schema) × Tells (P schema) status (report_of new)

abbrev pub TellsHeld : (SourceCatalog → Answer → Type 0) → ℕ → Held → Held → Type 0
TellsHeld P status old new = TellsBy P status (schema_of old) old new

-- the same of a handle
abbrev pub TellsOnce : (SourceCatalog → Answer → Type 0) → ℕ → Option SourceCatalog → Option Held → Option Held → Type 0
TellsOnce P status None old new = (status ≡ closed) × (new ≡ old)
TellsOnce P status (Some schema) old new = (schema_in new ≡ Some schema) × Tells (P schema) status (report_in new)

-- what is kept of an answer
abbrev pub Keeps : Result Answer OutOfMemory → ℕ → List ℕ → Type 0
Keeps (Ok answer) status report = (status ≡ status_in answer.verdict) × (report ≡ string_bytes answer.report)
Keeps (Err error) status report = (status ≡ out_of_memory) × (report ≡ [])

-- what is answered of a copy
abbrev pub copied_in : Copied → ℕ
copied_in Whole = valid
copied_in TooSmall = too_small
copied_in Nothing = closed

-- the report is copied, with its length
pub record CopiesWith (held : Option Held) (status needed : ℕ) (old new : List ℕ) : Type 0 where
  pub copied : Copied
  pub status_is : status ≡ copied_in copied
  pub copies : CopiesReport held copied needed old new

-- what is answered where another handle is to have the schema of this one
abbrev pub shared_in : Shared → ℕ
shared_in shared.Done = valid
shared_in shared.NoSchema = closed
shared_in shared.HasSchema = already_open
shared_in shared.OutOfMemory = out_of_memory

-- the schema is shared, by the schemas that the other handle and this one have
pub record SharesWith (other this : Option SourceCatalog) (status : ℕ) : Type 0 where
  pub shared : Shared
  pub status_is : status ≡ shared_in shared
  pub shares : Shares other this shared
