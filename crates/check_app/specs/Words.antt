-- What the arguments ask for.
use Rattle.std.specs.Prelude.{ℕ, List, [], ◌∷◌, Option, Some, None, Bool, true, false, if◌then◌else◌, codes}
use Rattle.std.specs.Str.{bytes_eq}
use Rattle.check_app.specs.declared.failure.Failure.{Failure}
use Rattle.check_app.specs.declared.failure.Failure.TheVariants as f
use Rattle.check_app.specs.declared.program.Sample.{Sample}
use Rattle.check_app.specs.declared.program.Sample.TheVariants as s
use Rattle.check_app.specs.declared.program.Mode.{Mode}
use Rattle.check_app.specs.declared.program.Mode.TheVariants as m
use Rattle.check_app.specs.declared.program.Task.{Task}

-- the sample schema of the name
abbrev pub sample_named : List ℕ → Option Sample
sample_named word =
    if bytes_eq word (codes "demo") then Some s.Demo
    else if bytes_eq word (codes "pets") then Some s.Pets
    else if bytes_eq word (codes "boxes") then Some s.Boxes
    else None

-- the mode of the word
abbrev pub mode_named : List ℕ → Option Mode
mode_named word =
    if bytes_eq word (codes "merge") then Some m.Merge
    else if bytes_eq word (codes "closed") then Some m.Closed
    else None

-- one word: every rule, against the sample schema
abbrev pub plain_task : Option Sample → Option Task
plain_task None = None
plain_task (Some sample) = Some (record { sample = sample; mode = m.Plain })

-- two words: the mode of the second; the demo has no modes
abbrev pub other_task : Option Sample → Option Mode → Option Task
other_task (Some s.Pets) (Some mode) = Some (record { sample = s.Pets; mode = mode })
other_task (Some s.Boxes) (Some mode) = Some (record { sample = s.Boxes; mode = mode })
other_task _ _ = None

-- one word names a sample schema, a second one a mode; all else is invalid
abbrev pub task_asked : List (List ℕ) → Option Task
task_asked (word ∷ []) = plain_task (sample_named word)
task_asked (word ∷ mode ∷ []) = other_task (sample_named word) (mode_named mode)
task_asked _ = None

-- whether the input is read: the demo has a document of its own, and invalid arguments ask for none
abbrev pub is_read : Sample → Bool
is_read s.Demo = false
is_read s.Pets = true
is_read s.Boxes = true

abbrev pub reads_input : Option Task → Bool
reads_input None = false
reads_input (Some task) = is_read task.sample

-- the arguments are invalid
abbrev pub is_usage : Failure → Bool
is_usage f.Usage = true
is_usage _ = false
