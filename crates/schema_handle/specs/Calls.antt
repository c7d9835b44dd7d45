-- What is in a handle, and what calls of C do with it.
use Rattle.std.specs.Prelude.{◌≡◌, ◌⊎◌, ◌<◌, ◌≤◌, ◌++◌, ℕ, List, [], Option, Some, None, drop, length, option_map}
use Rattle.std.specs.Prelude.{string_bytes}
use Rattle.std.specs.Arc.{arc_value}
use Rattle.schema.specs.Catalog.{Catalog}
use Rattle.schema_handle.specs.declared.calls.Copied.{Copied}
use Rattle.schema_handle.specs.declared.calls.Copied.TheVariants.{Whole, TooSmall, Nothing}
use Rattle.schema_handle.specs.declared.calls.Shared.{Shared}
use Rattle.schema_handle.specs.declared.calls.Shared.TheVariants as shared
use Rattle.schema_handle.specs.declared.slot.Held.{Held}
use Rattle.sdl_scalars.specs.declared.check.SourceCheck.{SourceCheck}
use Rattle.sdl_scalars.specs.declared.scalar.SourceScalar.{SourceScalar}

-- a schema as it is read from a text
abbrev pub SourceCatalog : Type 0
SourceCatalog = Catalog SourceScalar SourceCheck

-- the schema of what is held, if there is one, and the bytes of the report
abbrev pub schema_of : Held → Option SourceCatalog
schema_of held = option_map arc_value held.schema

abbrev pub report_of : Held → List ℕ
report_of held = string_bytes held.report

-- the same of what is held or nothing
abbrev pub schema_in : Option Held → Option SourceCatalog
schema_in None = None
schema_in (Some held) = schema_of held

abbrev pub report_in : Option Held → List ℕ
report_in None = []
report_in (Some held) = report_of held

-- bytes stand at the front of the room, which stays as it was where it is too small
pub record CopiesBytes (bytes : List ℕ) (copied : Copied) (old new : List ℕ) : Type 0 where
  pub fits : length bytes ≤ length old → (copied ≡ Whole) × (new ≡ bytes ++ drop (length bytes) old)
  pub over : length old < length bytes → (copied ≡ TooSmall) × (new ≡ old)

-- the report is copied, with its length
abbrev pub CopiesReport : Option Held → Copied → ℕ → List ℕ → List ℕ → Type 0
CopiesReport None copied needed old new = (copied ≡ Nothing) × (needed ≡ 0) × (new ≡ old)
CopiesReport (Some held) copied needed old new =
    (needed ≡ length (report_of held)) × CopiesBytes (report_of held) copied old new

-- what is answered where this schema is to be given away
abbrev pub Gives : Option SourceCatalog → Shared → Type 0
Gives None answer = answer ≡ shared.NoSchema
Gives (Some schema) answer = (answer ≡ shared.Done) ⊎ (answer ≡ shared.OutOfMemory)

-- the same, by the schema that the other handle has
abbrev pub Shares : Option SourceCatalog → Option SourceCatalog → Shared → Type 0
Shares None schema answer = Gives schema answer
Shares (Some kept) schema answer = answer ≡ shared.HasSchema
