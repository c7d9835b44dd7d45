-- Sets of fields by number, and the sets of the fragments.
use Rattle.std.specs.Prelude.{ℕ, suc, ◌<◌, ◌≤◌, ◌≡◌, ◌==◌, List, [], length, get_or, slice_get, true}
use Rattle.std.specs.List.{All, Contains, list_any}
use Rattle.std.specs.Option.{option_map_or}
use Rattle.merge_sets.specs.declared.node.Entry.{Entry}
use Rattle.merge_sets.specs.declared.node.SetNode.{SetNode}
use Rattle.merge_sets.specs.Indexed.{firsts_of}

abbrev pub own_at : List SetNode → ℕ → List Entry
own_at sets s = option_map_or (λ n. n.own.items) (slice_get sets s) []

abbrev pub spreads_at : List SetNode → ℕ → List ℕ
spreads_at sets s = option_map_or (λ n. n.spreads.items) (slice_get sets s) []

-- The first own field of each response name of a set.
abbrev pub firsts_at : List SetNode → ℕ → List Entry
firsts_at sets s = option_map_or (λ n. firsts_of n.own.items n.index) (slice_get sets s) []

-- One more than the number of the set below a field, and 0 where there is none.
abbrev pub height : Entry → ℕ
height a = option_map_or (λ s. suc s) a.below 0

-- Each set refers to smaller sets alone, and spreads fragments that there are.
abbrev pub Falling : List SetNode → List ℕ → Type 0
Falling sets fragments =
    (s : ℕ) → All (λ a. height a ≤ s) (own_at sets s)
    × All (λ f. (f < length fragments) × (get_or fragments f 0 < s)) (spreads_at sets s)

-- The set of each fragment stands in the order.
abbrev pub AreListed : List ℕ → List ℕ → Type 0
AreListed fragments order = (f : ℕ) → f < length fragments → list_any (λ t. get_or fragments f 0 == t) order ≡ true

-- Each set does.
abbrev pub IsWhole : List SetNode → List ℕ → Type 0
IsWhole sets order = (s : ℕ) → s < length sets → Contains order s
