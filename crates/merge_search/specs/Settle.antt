-- Pairs of fields that are settled at once.
use Rattle.std.specs.Prelude.{ℕ, List, [], Bool, true, false, ◌≡◌}
use Rattle.std.specs.List.{All}
use Rattle.merge_sets.specs.declared.node.Entry.{Entry}
use Rattle.merge_search.specs.declared.state.Search.{Search}
use Rattle.merge_search.specs.State.{Keeps}
use Rattle.merge_search.specs.Tasks.{MeetsFields}
use Rattle.merge_sets.specs.World.{World, spreads_of, conflict_of, Same}

-- The set spreads nothing.
abbrev pub IsSpreadless : World → ℕ → Type 0
IsSpreadless w s = spreads_of w s ≡ []

-- The field fails with none of some others that has its response name.
abbrev pub AgreesWith : World → Bool → Entry → List Entry → Type 0
AgreesWith w e c others = All (λ d. Same c d → conflict_of w e c d ≡ false) others

-- So does each of some fields.
abbrev pub AgreeFlatly : World → Bool → List Entry → List Entry → Type 0
AgreeFlatly w e left right = All (λ c. AgreesWith w e c right) left

-- The two fields were compared; or nothing else was done, and the two don't fail by themselves.
abbrev pub Settles : World → Bool → Entry → Entry → Bool → Search → Search → Type 0
Settles w e a b true old new = MeetsFields w e a b old new
Settles w e a b false old new = Keeps old new × (conflict_of w e a b ≡ false)
