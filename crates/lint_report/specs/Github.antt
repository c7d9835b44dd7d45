-- Errors as commands of a workflow of GitHub's: a line for each, which GitHub shows at its place.
use Rattle.std.specs.Prelude.{◌==◌, ℕ, List, [], ◌∷◌, ◌++◌, chars, codes, flat_map, if◌then◌else◌, string_bytes}
use Rattle.std.specs.Char.{encode_utf8}
use Rattle.std.specs.Fmt.{decimal}
use Rattle.lint_sources.specs.declared.faults.Fault.{Fault}
use Rattle.lint_sources.specs.declared.issues.Issue.{Issue}
use Rattle.lint_sources.specs.declared.sources.Place.{Place}
use Rattle.lint_sources.specs.declared.sources.Source.{Source}
use Rattle.lint_sources.specs.Sources.{path_in}
use Rattle.lint_report.specs.Texts.{line, told_column, told_line}

-- what stands for a character of a message, and of a property
abbrev pub message_character : ℕ → List ℕ
message_character character =
    if character == 37 then codes "%25"
    else if character == 13 then codes "%0D"
    else if character == 10 then codes "%0A"
    else encode_utf8 character

abbrev pub property_character : ℕ → List ℕ
property_character character =
    if character == 58 then codes "%3A"
    else if character == 44 then codes "%2C"
    else message_character character

abbrev pub message_text : List ℕ → List ℕ
message_text text = flat_map message_character (chars text)

abbrev pub property_text : List ℕ → List ℕ
property_text text = flat_map property_character (chars text)

-- line and column of the first place
abbrev pub place_properties : List Source → List Place → List ℕ
place_properties sources [] = []
place_properties sources (place ∷ places) =
    codes ",line=" ++ decimal (told_line place) ++ codes ",col=" ++ decimal (told_column sources place)

-- `::error file=path,line=1,col=1::message`
abbrev pub issue_command : List Source → Issue → List ℕ
issue_command sources issue =
    codes "::error file=" ++ (property_text (path_in sources issue.file)
    ++ (place_properties sources issue.places.items ++ (codes "::" ++ line (message_text (string_bytes issue.message)))))

-- a fault is an issue of its own files
abbrev pub fault_command : Fault → List ℕ
fault_command fault = issue_command fault.sources.items fault.issue

-- the faults and then the errors, each in order
abbrev pub github_text : List Fault → List Source → List Issue → List ℕ
github_text faults sources issues = flat_map fault_command faults ++ flat_map (issue_command sources) issues
