-- How large a graph is.
use Rattle.std.specs.Prelude.{ℕ, suc, zero, ◌+◌, length}
use Rattle.merge_sets.specs.World.{World, own_of, spreads_of}

-- Sets up to a number, each with its own fields and its spreads.
abbrev pub size_below : World → ℕ → ℕ
size_below w zero = 0
size_below w (suc n) = size_below w n + (length (own_of w n) + (length (spreads_of w n) + 1))

-- All sets.
abbrev pub graph_size : World → ℕ
graph_size w = size_below w (length w.sets)
