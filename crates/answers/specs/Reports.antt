-- What is reported of a text that was not judged.
use Rattle.std.specs.Prelude.{◌≡◌, ℕ, List, [], ◌∷◌, length, take}
use Rattle.std.specs.Str.{IsValidUpTo}
use Rattle.error_report.specs.Json.{report_text}
use Rattle.language_types.specs.declared.position.SourcePosition.{SourcePosition}
use Rattle.language_types.specs.Position.{index_of, line_of, column_of}
use Rattle.lint_sources.specs.Lines.{line_ends}
use Rattle.lint_sources.specs.ShownLines.{column_after}

-- the report has one error of the text, at this place
pub record IsRefusal (text : List ℕ) (position : SourcePosition) (report : List ℕ) : Type 0 where
  pub message : List ℕ
  pub report_is : report ≡ report_text text (record { locations = position ∷ []; message = message } ∷ [])

-- the place of a byte
pub record IsPlaceOf (bytes : List ℕ) (index : ℕ) (position : SourcePosition) : Type 0 where
  pub index_is : index_of position ≡ length (take index bytes)
  pub line_is : line_of position ≡ line_ends (take index bytes)
  pub column_is : column_of position ≡ column_after (take index bytes)

-- the bytes are not UTF-8, and the report has the place of the first that is not
pub record IsNotUtf8 (bytes report : List ℕ) : Type 0 where
  pub index : ℕ
  pub first : IsValidUpTo bytes index
  pub position : SourcePosition
  pub place : IsPlaceOf bytes index position
  pub refused : IsRefusal (take index bytes) position report
