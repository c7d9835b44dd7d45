-- Errors as JSON: the tokens of the text, which the crate `json` lays out and escapes (RFC 8259).
use Rattle.std.specs.Prelude.{ℕ, List, [], ◌∷◌, ◌++◌, codes, flat_map, if◌then◌else◌, string_bytes}
use Rattle.std.specs.Fmt.{decimal}
use Rattle.std.specs.Str.{bytes_eq}
use Rattle.json.specs.Layout.{pretty}
use Rattle.json.specs.Token.{Token, begin_array, begin_object, end_array, end_object, key, number, string}
use Rattle.lint_sources.specs.declared.faults.Fault.{Fault}
use Rattle.lint_sources.specs.declared.issues.Issue.{Issue}
use Rattle.lint_sources.specs.declared.sources.Place.{Place}
use Rattle.lint_sources.specs.declared.sources.Source.{Source}
use Rattle.lint_sources.specs.Sources.{path_in}
use Rattle.lint_report.specs.JsonEscapes.{escaped}
use Rattle.lint_report.specs.Texts.{line, told_column, told_line}

-- a member with a text, and one with a number
abbrev pub text_member : List ℕ → List ℕ → List Token
text_member name text = key name ∷ string text ∷ []

abbrev pub number_member : List ℕ → ℕ → List Token
number_member name value = key name ∷ number (decimal value) ∷ []

-- `{ line, column }` of a place
abbrev pub location_tokens : List Source → Place → List Token
location_tokens sources place =
    begin_object ∷ number_member (codes "line") (told_line place)
    ++ number_member (codes "column") (told_column sources place) ++ end_object ∷ []

-- a place, if its file has the same path
abbrev pub told_locations : List Source → ℕ → Place → List Token
told_locations sources file place =
    if bytes_eq (path_in sources place.file) (path_in sources file) then location_tokens sources place else []

-- the places in that file, as a list
abbrev pub locations_tokens : List Source → ℕ → List Place → List Token
locations_tokens sources file places = begin_array ∷ flat_map (told_locations sources file) places ++ end_array ∷ []

-- `{ path, message, locations }`
abbrev pub issue_tokens : List Source → Issue → List Token
issue_tokens sources issue =
    begin_object ∷ text_member (codes "path") (path_in sources issue.file)
    ++ text_member (codes "message") (string_bytes issue.message)
    ++ key (codes "locations") ∷ locations_tokens sources issue.file issue.places.items ++ end_object ∷ []

-- a fault is an issue of its own files
abbrev pub fault_tokens : Fault → List Token
fault_tokens fault = issue_tokens fault.sources.items fault.issue

-- the faults and then the errors, each in order, as a list
abbrev pub report_tokens : List Fault → List Source → List Issue → List Token
report_tokens faults sources issues =
    begin_array ∷ flat_map fault_tokens faults ++ flat_map (issue_tokens sources) issues ++ end_array ∷ []

-- the text: a line for each item and member, indented by two spaces for each bracket; characters that are not printable
-- are escaped
abbrev pub json_text : List Fault → List Source → List Issue → List ℕ
json_text faults sources issues = escaped (line (pretty (report_tokens faults sources issues)))
