-- The own fields of a set by their response names.
use Rattle.std.specs.Prelude.{ℕ, ◌≡◌, ◌==◌, ◌<◌, List, Some, true, slice_get}
use Rattle.std.specs.List.{All, filter, list_any}
use Rattle.std.specs.List.Sorted.{IsNonDecreasingBy}
use Rattle.merge_sets.specs.declared.node.Entry.{Entry}

-- The fields of one response name, in order.
abbrev pub named : ℕ → List Entry → List Entry
named n own = filter (λ a. a.response == n) own

-- The response name of each field is that of one of the firsts.
abbrev pub AreListed : List Entry → List Entry → Type 0
AreListed firsts own = All (λ a. list_any (λ f. a.response == f.response) firsts ≡ true) own

-- By the numbers of their response names, ascending.
abbrev pub AreSorted : List Entry → Type 0
AreSorted by_name = IsNonDecreasingBy (λ a. a.response) by_name

-- Under each name the same fields, in the same order.
abbrev pub HaveSameGroups : List Entry → List Entry → Type 0
HaveSameGroups by_name own = (n : ℕ) → named n by_name ≡ named n own

-- No two have one response name.
abbrev pub HaveOwnNames : List Entry → Type 0
HaveOwnNames fields = (k l : ℕ) (a b : Entry) → k < l → slice_get fields k ≡ Some a → slice_get fields l ≡ Some b → a.response ≡ b.response → ⊥
