-- The text of a report.
use Rattle.std.specs.Prelude.{ℕ, List, [], ◌∷◌, ◌++◌, Option, Some, None, codes}
use Rattle.std.specs.Fmt.{decimal}
use Rattle.std.specs.List.{flat_map}
use Rattle.walk.specs.ErrorValue.{ErrorValue, printed_error}

-- a text and the end of its line
abbrev pub line : List ℕ → List ℕ
line text = text ++ 10 ∷ []

-- each error on a line
abbrev pub error_lines : List ErrorValue → List ℕ
error_lines errors = flat_map (λ e. line (printed_error e)) errors

-- the number of pairs that were compared, if it is known
abbrev pub pairs_line : Option ℕ → List ℕ
pairs_line None = []
pairs_line (Some pairs) = line (codes "compared " ++ decimal pairs)

-- the errors, and then that number
abbrev pub report_text : List ErrorValue → Option ℕ → List ℕ
report_text errors pairs = error_lines errors ++ pairs_line pairs
