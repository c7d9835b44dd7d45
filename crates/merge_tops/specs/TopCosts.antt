-- How many fields the search of sets compares, one set after the other.
use Rattle.std.specs.Prelude.{ℕ, ◌+◌, ◌*◌, ◌-◌, ◌==◌, List, [], ◌∷◌, cond, drop, length, take, sum_by}
use Rattle.merge_sets.specs.declared.node.Entry.{Entry}
use Rattle.merge_sets.specs.declared.node.InnerSet.{InnerSet}
use Rattle.merge_sets.specs.World.{World, own_of, spreads_of}
use Rattle.merge_search.specs.Counts.{most_repeats}
use Rattle.merge_search.specs.Spending.{fragments_weight, repeat_cost, sets_weight, sum_below}
use Rattle.merge_search.specs.Weight.{field_weight, fields_weight, weight}

-- Some fields, with each other and with all fragments.
abbrev pub top_cost : World → ℕ → ℕ
top_cost w n = n * (n + fragments_weight w)

-- The fields of the set of an inline fragment, as the set round it has them.
abbrev pub part_in : List Entry → InnerSet → List Entry
part_in own i = take (i.fields_end - i.first_field) (drop i.first_field own)

abbrev pub part_weight : World → InnerSet → ℕ
part_weight w i = fields_weight w (part_in (own_of w i.outer) i)

-- The set of an inline fragment, if it stands in a set; and all that do, each compared once more.
abbrev pub inner_set_cost : World → ℕ → InnerSet → ℕ
inner_set_cost w s i = cond (i.outer == s) (top_cost w (part_weight w i)) 0

abbrev pub inner_cost : World → List InnerSet → ℕ → ℕ
inner_cost w inner s = sum_by (inner_set_cost w s) inner

-- Some fields, each with those after it.
abbrev pub later_cost : World → List Entry → ℕ
later_cost w [] = 0
later_cost w (a ∷ fields) = field_weight w a * fields_weight w fields + later_cost w fields

-- What is asked of a set as a whole: of the fragments that it spreads, each with the others and with its own fields.
abbrev pub set_questions : World → ℕ → ℕ
set_questions w s = length (spreads_of w s) * (length (spreads_of w s) + length (own_of w s))

-- All that is asked of a set.
abbrev pub set_cost : World → List InnerSet → ℕ → ℕ
set_cost w inner s = top_cost w (weight w s) + set_questions w s + inner_cost w inner s

-- The own fields of all sets.
abbrev pub own_count : World → ℕ
own_count w = sum_below (λ s. length (own_of w s)) (length w.sets)

-- The sets of an order, one after the other; each two fragments, and each set and each fragment, with the flag and without
-- it; what is repeated; and which response names are plain.
abbrev pub search_cost : World → List InnerSet → List ℕ → ℕ
search_cost w inner order =
    sum_by (set_cost w inner) order + 2 * (fragments_weight w * (fragments_weight w + sets_weight w)) + repeat_cost * most_repeats
    + 8 * own_count w
