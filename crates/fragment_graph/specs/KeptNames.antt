-- The names that are kept.
use Rattle.std.specs.Prelude.{ℕ, List}
use Rattle.fragment_graph.specs.declared.kept.KeptNames.{KeptNames}
use Rattle.fragment_graph.specs.Kept.{defined_names}

abbrev pub kept_by : KeptNames → List (List ℕ)
kept_by k = defined_names k.names
