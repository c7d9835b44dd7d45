-- What is written of documents, and which words ask for help or the version.
use Rattle.std.specs.Prelude.{◌≡◌, ◌||◌, Bool, true, ℕ, List, Option, String, codes, if◌then◌else◌, nat_eq}
use Rattle.std.specs.Prelude.{string_bytes}
use Rattle.std.specs.declared.alloc.Global.{Global}
use Rattle.std.specs.Io.KnownBytes.{Appends}
use Rattle.std.specs.List.{list_any, starts_with}
use Rattle.std.specs.Str.{bytes_eq}
use Rattle.lint_app.specs.declared.program.Told.{Told}
use Rattle.lint_app.specs.Tasks.{TellsTask}
use Rattle.lint_files.specs.Host.{Host}
use Rattle.lint_app.specs.Rules.{SourceRules}
use Rattle.lint_args.specs.Asks.{AsksFor, word_texts}
use Rattle.lint_args.specs.declared.task.Task.{Task}

-- a word that is answered with help or the version: `--help`, `--version`, and one that begins with `-h` or `-V`
abbrev pub begins_request : List ℕ → Bool
begins_request word =
    bytes_eq word (codes "--help") || bytes_eq word (codes "--version") || starts_with nat_eq word (codes "-h")
    || starts_with nat_eq word (codes "-V")

abbrev pub asks_for_text : List (String Global) → Bool
asks_for_text = list_any (λ word. begins_request (string_bytes word))

-- By what is known of the rules of each dialect.
module _ (rules : SourceRules) where
  -- what is told of a task's files was written in one piece, every file was judged, and the status says whether there
  -- are errors
  pub record WritesTask (host : Host) (task : Task) (old new : Option (List ℕ)) (status : ℕ) : Type 0 where
    pub told : Told
    pub tells : TellsTask rules host task told
    pub whole : told.is_whole ≡ true
    pub status_is : status ≡ (if told.has_errors then 1 else 0)
    pub written : Appends old new (string_bytes told.text)

  -- of the task that the words ask for
  abbrev pub WritesAsked : List (String Global) → Host → Option (List ℕ) → Option (List ℕ) → ℕ → Type 0
  WritesAsked words host old new status = (task : Task) × AsksFor (word_texts words) task × WritesTask host task old new status
