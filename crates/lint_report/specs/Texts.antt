-- Errors as text.
use Rattle.std.specs.Prelude.{◌≡◌, ◌==◌, ◌+◌, ◌-◌, ◌^◌, ℕ, Bool, List, [], ◌∷◌, ◌++◌, chars, codes, drop, length, min}
use Rattle.std.specs.Prelude.{string_bytes, take, if◌then◌else◌}
use Rattle.std.specs.Fmt.{decimal}
use Rattle.std.specs.List.{AllZip, concat}
use Rattle.std.specs.Str.{IsCharBoundary}
use Rattle.language_types.specs.Position.{line_of, column_of}
use Rattle.lint_sources.specs.declared.faults.Fault.{Fault}
use Rattle.lint_sources.specs.declared.issues.Issue.{Issue}
use Rattle.lint_sources.specs.declared.sources.Place.{Place}
use Rattle.lint_sources.specs.declared.sources.Source.{Source}
use Rattle.lint_sources.specs.Issues.{file_count}
use Rattle.lint_sources.specs.ShownLines.{IsLineOf, characters_before}
use Rattle.lint_sources.specs.Sources.{path_in, text_in}
use Rattle.lint_report.specs.Colours.{bold, error_word, plain}
use Rattle.lint_report.specs.Printable.{printed}
use Rattle.lint_report.specs.Windows.{window}

-- a text and the end of its line
abbrev pub line : List ℕ → List ℕ
line text = text ++ 10 ∷ []

-- a 0-based number counted from 1, up to the largest number
abbrev pub from_one : ℕ → ℕ
from_one n = min (n + 1) (2 ^ 64 - 1)

-- line and column of a place, counted from 1, the column in characters
abbrev pub told_line : Place → ℕ
told_line place = from_one (line_of place.position)

abbrev pub told_column : List Source → Place → ℕ
told_column sources place = from_one (characters_before (text_in sources place.file) place.position)

-- a path, which may be bold
abbrev pub path_text : Bool → List ℕ → List ℕ
path_text coloured path = bold coloured ++ printed path ++ plain coloured

-- a message behind the word before it
abbrev pub message_text : Bool → List ℕ → List ℕ
message_text coloured message = error_word coloured ++ line (printed message)

-- what comes before a message: `path:line:column: `
abbrev pub told_place : Bool → List Source → Place → List ℕ
told_place coloured sources place =
    path_text coloured (path_in sources place.file) ++ codes ":" ++ decimal (told_line place) ++ codes ":"
    ++ decimal (told_column sources place) ++ codes ": "

-- what comes before a column of a line, and the rest; nothing is left if no character begins there
pub record IsSplitAt (line : List ℕ) (column : ℕ) (before rest : List ℕ) : Type 0 where
  pub begun : IsCharBoundary line column → (before ≡ take column line) × (rest ≡ drop column line)
  pub all : ¬ (IsCharBoundary line column) → (before ≡ line) × (rest ≡ [])

-- a window of the line of a place, and a mark below the place
pub record ShowsLine (coloured : Bool) (sources : List Source) (place : Place) (text : List ℕ) : Type 0 where
  pub shown : List ℕ
  pub before : List ℕ
  pub rest : List ℕ
  pub is_line : IsLineOf (text_in sources place.file) place.position shown
  pub is_split : IsSplitAt shown (column_of place.position) before rest
  pub text_is : text ≡ window coloured (chars before) (chars rest)

-- an error at a place: the place, the message, and the line of the place
pub record IsErrorText (coloured : Bool) (sources : List Source) (place : Place) (message : List ℕ) (text : List ℕ) : Type 0 where
  pub below : List ℕ
  pub shows : ShowsLine coloured sources place below
  pub text_is : text ≡ told_place coloured sources place ++ message_text coloured message ++ below

-- a note at a further place, and its line
pub record IsNoteText (coloured : Bool) (sources : List Source) (place : Place) (text : List ℕ) : Type 0 where
  pub below : List ℕ
  pub shows : ShowsLine coloured sources place below
  pub text_is : text ≡ told_place coloured sources place ++ line (codes "note: also here") ++ below

-- a text for each item, one after the other
pub record AreTexts {X : Type 0} (P : X → List ℕ → Type 0) (items : List X) (text : List ℕ) : Type 0 where
  pub texts : List (List ℕ)
  pub each : AllZip P items texts
  pub text_is : text ≡ concat texts

-- a note for each place
abbrev pub AreNotes : Bool → List Source → List Place → List ℕ → Type 0
AreNotes coloured sources places text = AreTexts (IsNoteText coloured sources) places text

-- the error at its first place, and a note for each further one
pub record IsPlacedText (coloured : Bool) (sources : List Source) (first : Place) (others : List Place)
    (message text : List ℕ) : Type 0 where
  pub error : List ℕ
  pub notes : List ℕ
  pub is_error : IsErrorText coloured sources first message error
  pub are_notes : AreNotes coloured sources others notes
  pub text_is : text ≡ error ++ notes

-- an error at some places; one without a place has the path of its file alone
abbrev pub IsTextAt : Bool → List Source → ℕ → List ℕ → List Place → List ℕ → Type 0
IsTextAt coloured sources file message [] text =
    text ≡ path_text coloured (path_in sources file) ++ codes ": " ++ message_text coloured message
IsTextAt coloured sources file message (first ∷ others) text = IsPlacedText coloured sources first others message text

abbrev pub IsIssueText : Bool → List Source → Issue → List ℕ → Type 0
IsIssueText coloured sources issue text = IsTextAt coloured sources issue.file (string_bytes issue.message) issue.places.items text

-- a count in words: `no errors`, `1 error`, `2 errors`
abbrev pub count_text : ℕ → List ℕ → List ℕ
count_text number one =
    if number == 0 then codes "no " ++ one ++ codes "s"
    else if number == 1 then codes "1 " ++ one
    else decimal number ++ codes " " ++ one ++ codes "s"

-- `3 errors in 2 of 5 files`, and `no errors in 5 files`
abbrev pub counts_text : ℕ → ℕ → ℕ → List ℕ
counts_text errors files judged =
    count_text errors (codes "error") ++ codes " in "
    ++ (if files == 0 then [] else decimal files ++ codes " of ")
    ++ count_text judged (codes "file")

-- `1 file not checked`
abbrev pub unjudged_text : ℕ → List ℕ
unjudged_text unjudged = count_text unjudged (codes "file") ++ codes " not checked"

-- the counts, then the files that were not checked; these alone if no file was
abbrev pub summary_text : ℕ → ℕ → ℕ → ℕ → List ℕ
summary_text errors files judged unjudged =
    if unjudged == 0 then counts_text errors files judged
    else if judged == 0 then unjudged_text unjudged
    else counts_text errors files judged ++ codes ", " ++ unjudged_text unjudged

-- the last line of a report
abbrev pub last_line : ℕ → ℕ → ℕ → ℕ → List ℕ
last_line errors files judged unjudged = line (summary_text errors files judged unjudged)

-- what was added to a text has the property
pub record Adds (P : List ℕ → Type 0) (old new : List ℕ) : Type 0 where
  pub added : List ℕ
  pub new_is : new ≡ old ++ added
  pub holds : P added

-- the errors in order, and a line of counts
pub record IsTextReport (coloured : Bool) (sources : List Source) (issues : List Issue) (judged unjudged : ℕ) (text : List ℕ) : Type 0 where
  pub texts : List (List ℕ)
  pub each : AllZip (IsIssueText coloured sources) issues texts
  pub text_is : text ≡ concat texts ++ last_line (length issues) (file_count issues) judged unjudged

-- why files could not be judged: an error for each, in the fault's own files
abbrev pub IsFaultText : Bool → Fault → List ℕ → Type 0
IsFaultText coloured fault text = IsIssueText coloured fault.sources.items fault.issue text

abbrev pub AreFaultTexts : Bool → List Fault → List ℕ → Type 0
AreFaultTexts coloured faults text = AreTexts (IsFaultText coloured) faults text
