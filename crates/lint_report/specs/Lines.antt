-- Texts of so many lines, in which every character is printable but for colours and the ends of the lines.
use Rattle.std.specs.Prelude.{◌≡◌, ◌==◌, ◌*◌, ◌||◌, ◌⊎◌, ℕ, Bool, List, [], ◌∷◌, encode_utf8_all, flat_map, length, true}
use Rattle.std.specs.List.{All, concat}
use Rattle.lint_sources.specs.declared.faults.Fault.{Fault}
use Rattle.lint_sources.specs.declared.issues.Issue.{Issue}
use Rattle.lint_sources.specs.declared.sources.Place.{Place}
use Rattle.lint_report.specs.Colours.{bold, plain, red}
use Rattle.lint_report.specs.Printable.{is_printable}
use Rattle.lint_report.specs.Texts.{line}

-- a text whose characters are all printable
pub record IsPrintable (text : List ℕ) : Type 0 where
  pub characters : List ℕ
  pub text_is : text ≡ encode_utf8_all characters
  pub all : All (λ character. is_printable character ≡ true) characters

-- a text whose characters are printable, but for the ends of its lines
pub record IsPrintableInLines (text : List ℕ) : Type 0 where
  pub characters : List ℕ
  pub text_is : text ≡ encode_utf8_all characters
  pub all : All (λ character. (character == 10 || is_printable character) ≡ true) characters

-- what begins or ends a colour, where there are colours
abbrev pub IsColour : Bool → List ℕ → Type 0
IsColour coloured text = (coloured ≡ true) × ((text ≡ bold true) ⊎ ((text ≡ red true) ⊎ (text ≡ plain true)))

-- a line without its end
pub record IsOneLine (coloured : Bool) (text : List ℕ) : Type 0 where
  pub pieces : List (List ℕ)
  pub each : All (λ piece. IsPrintable piece ⊎ IsColour coloured piece) pieces
  pub text_is : text ≡ concat pieces

-- so many lines
pub record HasLines (coloured : Bool) (count : ℕ) (text : List ℕ) : Type 0 where
  pub lines : List (List ℕ)
  pub each : All (IsOneLine coloured) lines
  pub count_is : length lines ≡ count
  pub text_is : text ≡ flat_map line lines

-- an error has three lines for each place, and a single one without a place
abbrev pub lines_at : List Place → ℕ
lines_at [] = 1
lines_at (place ∷ places) = 3 * length (place ∷ places)

abbrev pub issue_lines : Issue → ℕ
issue_lines issue = lines_at issue.places.items

abbrev pub fault_lines : Fault → ℕ
fault_lines fault = issue_lines fault.issue
