-- What is left of selection sets, in the order of the document.
use Rattle.std.specs.Prelude.{◌≡◌, List, [], ◌∷◌, ◌++◌, Option, None, Some, reverse}
use Rattle.std.specs.List.{flat_map}
use Rattle.std.specs.Option.{option_map_or}
use denote.Ref.{Bor}
use Rattle.language.specs.declared.tree.Field.{Field}
use Rattle.language.specs.declared.tree.InlineFragment.{InlineFragment}
use Rattle.language.specs.declared.tree.Selection.{Selection, out-Selection}
use Rattle.language.specs.declared.tree.Selection.TheOpen as open_tree
use Rattle.fragment_graph.specs.declared.preorder.Preorder.{Preorder}

abbrev pub set_in : {S : Type 0} → open_tree.Selection-F S (Selection S) (Field S) (InlineFragment S) → List (Selection S)
set_in (open_tree.Field f) = option_map_or (λ w. w.items) f.item.selection_set []
set_in (open_tree.FragmentSpread s) = []
set_in (open_tree.InlineFragment i) = i.item.selection_set.items

-- The set of a selection. By cases:
--   a field             its own, [] where it has none
--   a fragment spread   []
--   an inline fragment  its own
abbrev pub set_inside : {S : Type 0} → Selection S → List (Selection S)
set_inside {S} s = set_in (out-Selection S s)

-- Those of the sets that wait, the last set first.
abbrev pub all_waiting : {S : Type 0} → List (Bor (List (Selection S))) → List (Selection S)
all_waiting ws = flat_map (λ w. w.now) (reverse ws)

-- The selections that are left, each standing for all inside it.
abbrev pub left : {S : Type 0} → Preorder S → List (Selection S)
left w = w.rest.now ++ all_waiting w.waiting.items

-- A set goes before what waits, and these others between them.
abbrev pub Enters : {S : Type 0} → List (Selection S) → List (Selection S) → Preorder S → Preorder S → Type 0
Enters set others old new = left new ≡ set ++ (others ++ all_waiting old.waiting.items)

-- The selection was the next; its set takes its place.
pub record ComesNext {S : Type 0} (old new : Preorder S) (s : Selection S) : Type 0 where
  pub others : List (Selection S)
  pub first : left old ≡ s ∷ others
  pub after : left new ≡ set_inside s ++ others

-- That, or none was left.
abbrev pub Gives : {S : Type 0} → Preorder S → Preorder S → Option (Selection S) → Type 0
Gives old new None = left old ≡ []
Gives old new (Some s) = ComesNext old new s
