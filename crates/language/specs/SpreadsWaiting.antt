-- What selection sets that wait in a list have.
use Rattle.std.specs.Prelude.{ℕ, ◌+◌, ◌*◌, List, reverse}
use denote.Ref.{Bor}
use Rattle.std.specs.List.{flat_map, sum_by}
use Rattle.language.specs.declared.tree.Selection.{Selection}
use Rattle.language.specs.SelectionsInside.{all_inside}
use Rattle.language.specs.Spreads.{Names, spreads_of_all}

-- the names that they spread, the last set first
abbrev pub spreads_waiting : {S : Type 0} → List (Bor (List (Selection S))) → Names
spreads_waiting ws = flat_map (λ w. spreads_of_all w.now) (reverse ws)

-- twice their selections, at any depth, and once the sets
abbrev pub selections_waiting : {S : Type 0} → List (Bor (List (Selection S))) → ℕ
selections_waiting ws = sum_by (λ w. 1 + 2 * all_inside w.now) ws
