-- How many selections a selection holds, with itself.
use Rattle.std.specs.Prelude.{ℕ, ◌+◌, List}
use Rattle.std.specs.List.{sum_by}
use Rattle.std.specs.Option.{option_map_or}
use Rattle.language.specs.declared.tree.Selection.{Selection, fold-Selection}
use Rattle.language.specs.declared.tree.Selection.TheOpen as open_tree

-- one, and those inside
abbrev pub selection_step : {S : Type 0} → open_tree.Selection-F S ℕ ℕ ℕ → ℕ
selection_step (open_tree.Field f) = f.item
selection_step (open_tree.FragmentSpread s) = 1
selection_step (open_tree.InlineFragment i) = i.item

abbrev pub field_step : {S : Type 0} → open_tree.Field-F S ℕ ℕ ℕ → ℕ
field_step f = 1 + option_map_or (λ v. sum_by (λ n. n) v.items) f.selection_set 0

abbrev pub inline_step : {S : Type 0} → open_tree.InlineFragment-F S ℕ ℕ ℕ → ℕ
inline_step i = 1 + sum_by (λ n. n) i.selection_set.items

-- those of a selection, at any depth
abbrev pub selections_inside : {S : Type 0} → Selection S → ℕ
selections_inside {S} = fold-Selection S ℕ ℕ ℕ selection_step field_step inline_step

-- those of each selection of a set
abbrev pub all_inside : {S : Type 0} → List (Selection S) → ℕ
all_inside set = sum_by selections_inside set
