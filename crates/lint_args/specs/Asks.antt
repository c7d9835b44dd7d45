-- Which task the command line asks for.
use Rattle.std.specs.Prelude.{◌≡◌, ◌<◌, ◌+◌, ◌^◌, ◌⊎◌, ℕ, [], ◌∷◌, ◌++◌, Bool, IfSome, List, None, Option, Some, String}
use Rattle.std.specs.Prelude.{codes, cond, count_by, false, filter, if◌then◌else◌, map, not, option_map, string_bytes}
use Rattle.std.specs.Prelude.{unwrap_or}
use Rattle.std.specs.declared.alloc.Global.{Global}
use Rattle.std.specs.Borrow.{Bor}
use Rattle.std.specs.List.{list_any}
use Rattle.std.specs.Option.{option_map_or}
use Rattle.std.specs.Str.{bytes_eq}
use Rattle.std.specs.Str.Parse.{IsNumeral, digits_value, without_leading_plus}
use Rattle.clap.specs.Faults.{fault_of}
use Rattle.clap.specs.Kinds.{IsAmong}
use Rattle.clap.specs.Simple.{matches_of}
use Rattle.clap.specs.Values.{kind_of}
use Rattle.clap.specs.Walk.{Row, Text, all_of, first_of, texts}
use Rattle.clap.specs.declared.error.Error.{Error}
use Rattle.clap.specs.declared.error.kind.ErrorKind.{ErrorKind}
use Rattle.clap.specs.declared.error.kind.ErrorKind.TheVariants.{DisplayHelp, DisplayVersion, OutOfMemory}
use Rattle.lint_args.specs.CommandLine.{AreKnown, Choices, lint}
use Rattle.lint_args.specs.declared.task.Form.{Form}
use Rattle.lint_args.specs.declared.task.Form.TheVariants as form
use Rattle.lint_args.specs.declared.task.Task.{Task}

abbrev pub word_texts : List (String Global) → List Text
word_texts = map string_bytes

-- a text behind others, unless it is among them
abbrev pub added_once : List Text → Text → List Text
added_once known text = if list_any (bytes_eq text) known then known else known ++ text ∷ []

-- each text once, at its first place
abbrev pub distinct : List Text → List Text
distinct [] = []
distinct (text ∷ texts) = text ∷ filter (λ other. not (bytes_eq other text)) (distinct texts)

-- the values of an argument that names files, each once; none where it is not used
abbrev pub files_of : Text → List Row → List Text
files_of id rows = distinct (unwrap_or (all_of id rows) [])

-- an argument has this value; a flag has the value `true` where it is used
abbrev pub is_value : Text → Text → List Row → Bool
is_value id value rows = option_map_or (λ v. bytes_eq v value) (first_of id rows) false

-- how errors are printed
abbrev pub form_of : List Row → Form
form_of rows =
    if is_value (codes "format") (codes "json") rows then form.Json
    else if is_value (codes "format") (codes "github") rows then form.Github
    else form.Text

-- what the digits of a text write, where a plus may stand before them
abbrev pub written_number : Text → ℕ
written_number text = digits_value 10 (without_leading_plus text)

-- the number that a text writes, where it writes one of 64 bits
pub record IsNumberOf (text : Text) (number : Option ℕ) : Type 0 where
  pub some : IsNumeral 10 (without_leading_plus text) → written_number text < 2 ^ 64 → number ≡ Some (written_number text)
  pub only : IfSome number (λ n. n ≡ written_number text)

-- the greatest depth that is given, if one is
abbrev pub IsDepth : Option Text → Option ℕ → Type 0
IsDepth None depth = depth ≡ None
IsDepth (Some text) depth = IsNumberOf text depth

-- how many errors of a document are reported at most, or 0 for all
abbrev pub IsLimit : Option Text → ℕ → Type 0
IsLimit None limit = limit ≡ 0
IsLimit (Some text) limit = (number : Option ℕ) × IsNumberOf text number × (limit ≡ unwrap_or number 0)

-- the task has what was found for each argument
pub record IsOfRows (rows : List Row) (task : Task) : Type 0 where
  pub schemas : texts task.schemas.items ≡ files_of (codes "schema") rows
  pub queries : texts task.queries.items ≡ files_of (codes "query") rows
  pub variables : option_map (λ path. path.now) task.variables ≡ first_of (codes "variables") rows
  pub form : task.form ≡ form_of rows
  pub closed : task.is_closed ≡ is_value (codes "closed") (codes "true") rows
  pub together : task.is_together ≡ is_value (codes "together") (codes "true") rows
  pub depth : IsDepth (first_of (codes "depth") rows) task.max_depth
  pub errors : IsLimit (first_of (codes "errors") rows) task.max_errors
  pub juniper : task.is_juniper ≡ is_value (codes "dialect") (codes "juniper") rows

-- a path that stands for the standard input
abbrev pub is_input : Text → Bool
is_input path = bytes_eq path (codes "-")

-- how many of some paths do
abbrev pub inputs_among : List (Bor Text) → ℕ
inputs_among = count_by (λ path. is_input path.now)

-- how often a task names it
abbrev pub input_count : Task → ℕ
input_count task =
    (inputs_among task.schemas.items + inputs_among task.queries.items)
    + option_map_or (λ path. cond (is_input path.now) 1 0) task.variables 0

-- the words are valid, and the task has what they match
pub record AsksFor (words : List Text) (task : Task) : Type 0 where
  pub choices : Choices
  pub known : AreKnown choices
  pub accepted : fault_of (lint choices) words ≡ []
  pub matched : IsOfRows (matches_of (lint choices) words) task

-- the words have an error of this kind; asking for help or the version counts as one
abbrev pub HasFault : List Text → ErrorKind → Type 0
HasFault words kind = (choices : Choices) × AreKnown choices × IsAmong kind (fault_of (lint choices) words)

-- a text is asked for: help or the version
abbrev pub IsRequest : ErrorKind → Type 0
IsRequest kind = (kind ≡ DisplayHelp) ⊎ (kind ≡ DisplayVersion)

abbrev pub WantsText : List Text → Type 0
WantsText words = HasFault words DisplayHelp ⊎ HasFault words DisplayVersion

-- the words have an error of this kind, or out of memory
abbrev pub IsRefusal : List Text → Error → Type 0
IsRefusal words error = (kind_of error ≡ OutOfMemory) ⊎ HasFault words (kind_of error)
