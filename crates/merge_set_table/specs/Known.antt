-- The fragments that a set may spread.
use Rattle.std.specs.Prelude.{ℕ, List, Option, Some, None, nat_lt, option_and_then, slice_get, if◌then◌else◌}
use Rattle.fragment_graph.specs.Numbers.{number_of}
use Rattle.merge_set_table.specs.declared.known.KnownFragments.{KnownFragments}

abbrev pub below : ℕ → ℕ → Option ℕ
below count rank = if nat_lt rank count then Some rank else None

-- The rank of the fragment of a name, where it is below the count.
abbrev pub known_rank : KnownFragments → List ℕ → Option ℕ
known_rank k name = option_and_then (λ v. option_and_then (below k.count) (slice_get k.ranks.now v)) (number_of k.numbers.now name)
