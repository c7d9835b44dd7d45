-- Files by number.
use Rattle.std.specs.Prelude.{ℕ, List, [], slice_get, string_bytes}
use Rattle.std.specs.Option.{option_map_or}
use Rattle.lint_sources.specs.declared.sources.Source.{Source}

-- the path and the text of a file; empty if there is no such file
abbrev pub path_in : List Source → ℕ → List ℕ
path_in sources file = option_map_or (λ s. string_bytes s.path) (slice_get sources file) []

abbrev pub text_in : List Source → ℕ → List ℕ
text_in sources file = option_map_or (λ s. string_bytes s.text) (slice_get sources file) []
