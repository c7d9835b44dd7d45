-- Errors as JSON: the tokens of the text, which the crate `json` lays out and escapes (RFC 8259).
use Rattle.std.specs.Prelude.{ℕ, List, [], ◌∷◌, ◌++◌, codes, flat_map}
use Rattle.json.specs.Layout.{pretty}
use Rattle.json.specs.Token.{Token, begin_array, begin_object, end_array, end_object, key}
use Rattle.language_types.specs.declared.position.SourcePosition.{SourcePosition}
use Rattle.language_types.specs.Position.{line_of}
use Rattle.lint_sources.specs.ShownLines.{characters_before}
use Rattle.lint_report.specs.Json.{number_member, text_member}
use Rattle.lint_report.specs.JsonEscapes.{escaped}
use Rattle.lint_report.specs.Texts.{from_one, line}
use Rattle.walk.specs.ErrorValue.{ErrorValue}

-- line and column of a location, counted from 1, the column in characters
abbrev pub line_in : SourcePosition → ℕ
line_in location = from_one (line_of location)

abbrev pub column_in : List ℕ → SourcePosition → ℕ
column_in text location = from_one (characters_before text location)

-- `{ line, column }`
abbrev pub location_tokens : List ℕ → SourcePosition → List Token
location_tokens text location =
    begin_object ∷ number_member (codes "line") (line_in location)
    ++ number_member (codes "column") (column_in text location) ++ end_object ∷ []

abbrev pub locations_tokens : List ℕ → List SourcePosition → List Token
locations_tokens text locations = begin_array ∷ flat_map (location_tokens text) locations ++ end_array ∷ []

-- `{ message, locations }`
abbrev pub error_tokens : List ℕ → ErrorValue → List Token
error_tokens text error =
    begin_object ∷ text_member (codes "message") error.message
    ++ key (codes "locations") ∷ locations_tokens text error.locations ++ end_object ∷ []

-- the errors in order, as a list
abbrev pub report_tokens : List ℕ → List ErrorValue → List Token
report_tokens text errors = begin_array ∷ flat_map (error_tokens text) errors ++ end_array ∷ []

-- the text: a line for each item and member; characters that are not printable are escaped
abbrev pub report_text : List ℕ → List ErrorValue → List ℕ
report_text text errors = escaped (line (pretty (report_tokens text errors)))
