-- Why a run ends with the status 2, and what the output has then: a beginning of some text, which may be all of it.
use Rattle.std.specs.Prelude.{◌≡◌, ◌<◌, ◌⊎◌, ℕ, List, [], Option, String, length, string_bytes, take}
use Rattle.std.specs.declared.alloc.Global.{Global}
use Rattle.std.specs.Io.KnownBytes.{Appends}
use Rattle.clap.specs.Values.{kind_of}
use Rattle.clap.specs.Walk.{Text}
use Rattle.clap.specs.declared.error.Error.{Error}
use Rattle.clap.specs.declared.error.kind.ErrorKind.{ErrorKind}
use Rattle.lint_app.specs.declared.program.Told.{Told}
use Rattle.lint_app.specs.Tasks.{TellsTask}
use Rattle.lint_files.specs.Host.{Host}
use Rattle.lint_app.specs.Rules.{SourceRules}
use Rattle.lint_args.specs.Asks.{AsksFor, IsRefusal, IsRequest, input_count, word_texts}
use Rattle.lint_args.specs.declared.task.Form.{Form}
use Rattle.lint_args.specs.declared.task.Form.TheVariants as form
use Rattle.lint_args.specs.declared.task.Task.{Task}
use Rattle.lint_sources.specs.declared.faults.Fault.{Fault}
use Rattle.lint_report.specs.Github.{github_text}
use Rattle.lint_report.specs.Json.{json_text}

-- the beginning of a text was written
abbrev pub WritesPart : List ℕ → Option (List ℕ) → Option (List ℕ) → Type 0
WritesPart text old new = (taken : ℕ) × Appends old new (take taken text)

-- of some text of which this holds
abbrev pub WritesSome : (List ℕ → Type 0) → Option (List ℕ) → Option (List ℕ) → Type 0
WritesSome P old new = (text : List ℕ) × P text × WritesPart text old new

-- what the output has of faults for which no file could be judged
abbrev pub IsFaultReport : Form → List Fault → List ℕ → Type 0
IsFaultReport form.Text faults text = text ≡ []
IsFaultReport form.Json faults text = text ≡ json_text faults [] []
IsFaultReport form.Github faults text = text ≡ github_text faults [] []

-- there are faults for which no file could be judged, or memory was refused
abbrev pub EndsEarly : Form → List Fault → List ℕ → Type 0
EndsEarly form faults text = ((0 < length faults) × IsFaultReport form faults text) ⊎ (text ≡ [])

-- nothing is shown, or the help or the version that was asked for
abbrev pub IsShown : ErrorKind → List ℕ → Type 0
IsShown kind text = (text ≡ []) ⊎ IsRequest kind

-- the words have an error, or memory was refused
abbrev pub IsRefused : List Text → List ℕ → Type 0
IsRefused words text = (error : Error) × IsRefusal words error × IsShown (kind_of error) text

-- By what is known of the rules of each dialect.
module _ (rules : SourceRules) where
  -- of a task: it names the standard input twice; it ends early; or what is told of its files was not all written, or
  -- not all of them were judged
  abbrev pub EndsTask : Host → Task → List ℕ → Type 0
  EndsTask host task text =
      ((1 < input_count task) × (text ≡ []))
      ⊎ (((faults : List Fault) × EndsEarly task.form faults text)
      ⊎ ((told : Told) × TellsTask rules host task told × (text ≡ string_bytes told.text)))

  -- of a command line: its words are refused, help or the version could not be written, or its task ends so
  abbrev pub Ends : List (String Global) → Host → Option (List ℕ) → Option (List ℕ) → Type 0
  Ends words host = WritesSome (λ text. IsRefused (word_texts words) text
      ⊎ ((task : Task) × AsksFor (word_texts words) task × EndsTask host task text))
