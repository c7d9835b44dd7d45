-- How deep the selections of a set are nested.
use Rattle.std.specs.Prelude.{ℕ, suc, ◌+◌, List}
use Rattle.std.specs.List.{sum_by}
use Rattle.std.specs.Option.{option_map_or}
use Rattle.language.specs.declared.tree.Selection.{Selection, fold-Selection}
use Rattle.language.specs.declared.tree.Selection.TheOpen as open_tree

-- Itself, at a depth, and those inside, each one deeper than what it stands in.
abbrev pub selection_depths : {S : Type 0} → open_tree.Selection-F S (ℕ → ℕ) (ℕ → ℕ) (ℕ → ℕ) → ℕ → ℕ
selection_depths (open_tree.Field f) = f.item
selection_depths (open_tree.FragmentSpread s) = λ d. d
selection_depths (open_tree.InlineFragment i) = i.item

abbrev pub field_depths : {S : Type 0} → open_tree.Field-F S (ℕ → ℕ) (ℕ → ℕ) (ℕ → ℕ) → ℕ → ℕ
field_depths f d = d + option_map_or (λ v. sum_by (λ g. g (suc d)) v.items) f.selection_set 0

abbrev pub inline_depths : {S : Type 0} → open_tree.InlineFragment-F S (ℕ → ℕ) (ℕ → ℕ) (ℕ → ℕ) → ℕ → ℕ
inline_depths i d = d + sum_by (λ g. g (suc d)) i.selection_set.items

-- The depths of a selection and of those inside, added up, where it stands at the depth.
abbrev pub depths_inside : {S : Type 0} → Selection S → ℕ → ℕ
depths_inside {S} = fold-Selection S (ℕ → ℕ) (ℕ → ℕ) (ℕ → ℕ) selection_depths field_depths inline_depths

-- Those of the selections of a set.
abbrev pub depths : {S : Type 0} → List (Selection S) → ℕ → ℕ
depths set d = sum_by (λ x. depths_inside x d) set
