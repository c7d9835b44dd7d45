-- How many fields stand in sets and below them.
use Rattle.std.specs.Prelude.{ℕ, zero, suc, ◌+◌, List, sum_by}
use Rattle.std.specs.Option.{option_map_or}
use Rattle.merge_sets.specs.Graph.{own_at}
use Rattle.merge_sets.specs.World.{World, set_of}
use Rattle.merge_sets.specs.declared.node.Entry.{Entry}
use Rattle.merge_sets.specs.declared.node.SetNode.{SetNode}

-- The own fields of a set, and those of the sets below them, down to a depth. What is spread is left out.
abbrev pub weigh : List SetNode → ℕ → ℕ → ℕ
weigh sets zero s = 0
weigh sets (suc n) s = sum_by (λ a. 1 + option_map_or (weigh sets n) a.below 0) (own_at sets s)

-- All of them: each set refers to smaller ones alone, so the number of a set is depth enough.
abbrev pub weight : World → ℕ → ℕ
weight w s = weigh w.sets (suc s) s

-- What stands below a field.
abbrev pub below_weight : World → Entry → ℕ
below_weight w a = option_map_or (weight w) a.below 0

-- A field, and what stands below it.
abbrev pub field_weight : World → Entry → ℕ
field_weight w a = 1 + below_weight w a

-- Some fields, and what stands below them.
abbrev pub fields_weight : World → List Entry → ℕ
fields_weight w fields = sum_by (field_weight w) fields

-- The set of a fragment.
abbrev pub fragment_weight : World → ℕ → ℕ
fragment_weight w f = weight w (set_of w f)
