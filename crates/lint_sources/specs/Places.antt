-- A position of several files, read as one text, mapped back to its file.
use Rattle.std.specs.Prelude.{◌≡◌, ◌+◌, ◌-◌, ◌^◌, ℕ, List, [], ◌∷◌, ◌++◌, None, filter, length, min, nat_le}
use Rattle.std.specs.Prelude.{string_bytes, unwrap_or}
use Rattle.std.specs.List.{last_or}
use Rattle.language_types.specs.declared.position.SourcePosition.{SourcePosition}
use Rattle.language_types.specs.Position.{index_of, line_of, column_of}
use Rattle.lint_sources.specs.declared.sources.Joined.{Joined}
use Rattle.lint_sources.specs.declared.sources.Place.{Place}
use Rattle.lint_sources.specs.declared.sources.Start.{Start}
use Rattle.lint_sources.specs.Lines.{line_ends}

-- the whole text
abbrev pub text_of : Joined → List ℕ
text_of joined = string_bytes joined.text

-- the start of a first file
abbrev pub first_start : Start
first_start = record { file = 0; index = 0; line = 0 }

-- the last start at the index or before it
abbrev pub start_at : List Start → ℕ → Start
start_at starts index = unwrap_or (last_or None (filter (λ s. nat_le s.index index) starts)) first_start

-- the position counted from the start of a file: its column stays, since each file begins a line
abbrev pub seen_from : Start → SourcePosition → Place
seen_from start p = record {
  file = start.file;
  position = record { index = index_of p - start.index; line = line_of p - start.line; column = column_of p };
}

-- the place in the file that holds it
abbrev pub place_in : Joined → SourcePosition → Place
place_in joined p = seen_from (start_at joined.starts.items (index_of p)) p

-- what comes before a next file: a line feed, if there is a file already
abbrev pub between_files : List Start → List ℕ
between_files [] = []
between_files (start ∷ starts) = 10 ∷ []

-- no file yet
pub record HasNoFile (joined : Joined) : Type 0 where
  pub text_is : text_of joined ≡ []
  pub starts_are : joined.starts.items ≡ []
  pub lines_are : joined.lines ≡ 0

-- a file of this number and this text is added, from a line of its own; the lines that end in it and in the line feed
-- after it are counted, up to the greatest number
pub record JoinsFile (old : Joined) (file : ℕ) (text : List ℕ) (new : Joined) : Type 0 where
  pub text_is : text_of new ≡ text_of old ++ between_files old.starts.items ++ text
  pub starts_are : new.starts.items ≡ old.starts.items
      ++ record { file = file; index = length (text_of old ++ between_files old.starts.items); line = old.lines } ∷ []
  pub lines_are : new.lines ≡ min (old.lines + line_ends (text ++ 10 ∷ [])) (2 ^ 64 - 1)
