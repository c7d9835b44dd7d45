-- How a failure is reported.
use Rattle.std.specs.Prelude.{◌≡◌, ℕ, List, [], ◌∷◌, ◌++◌, Option, codes}
use Rattle.std.specs.Io.KnownBytes.{Appends}
use Rattle.sample_reader.specs.declared.error.ReadError.{ReadError}
use Rattle.sample_reader.specs.declared.error.ReadError.TheVariants as r
use Rattle.check_app.specs.declared.failure.Failure.{Failure}
use Rattle.check_app.specs.declared.failure.Failure.TheVariants as f
use Rattle.check_app.specs.Statuses.{status_of}
use Rattle.language_types.specs.Position.{printed_position}

-- a text that can't be parsed is a syntax error, at the same position
abbrev pub failure_of_read : ReadError → Failure
failure_of_read (r.Fault place) = f.Syntax place
failure_of_read r.OutOfMemory = f.OutOfMemory

-- the bytes that it prints
abbrev pub failure_text : Failure → List ℕ
failure_text (f.Syntax place) = codes "syntax at " ++ printed_position place
failure_text f.OutOfMemory = codes "out of memory"
failure_text f.Usage = codes "usage: check demo or check <pets, boxes> [merge, closed]"
failure_text f.InputOutput = codes "input or output failed"

-- the line that reports it
abbrev pub failure_line : Failure → List ℕ
failure_line failure = codes "check: " ++ failure_text failure ++ 10 ∷ []

-- one line was written, of a failure that has this status
pub record TellsFailure (old new : Option (List ℕ)) (status : ℕ) : Type 0 where
  pub failure : Failure
  pub status_is : status ≡ status_of failure
  pub written : Appends old new (failure_line failure)
