-- What is known of what a run finds outside.
use Rattle.std.specs.Prelude.{ℕ, List, None, Option, false}
use Rattle.lint_files.specs.declared.colours.Colours.{Colours}

-- files by their paths, which files are below a directory, and which streams show colours; for a path that is no
-- directory there is no list
pub record Host : Type 0 where
  pub file : List ℕ → Option (List ℕ)
  pub below : List ℕ → Option (Option (List (List ℕ)))
  pub colours : Colours

-- where no file is known
abbrev pub unknown_host : Colours → Host
unknown_host colours = record { file = λ path. None; below = λ path. None; colours = colours }

abbrev pub no_colours : Colours
no_colours = record { output = false; errors = false }
