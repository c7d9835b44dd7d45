-- The spreads of fragments in a document, each with its place (section 5.5.2.2).
use Rattle.std.specs.Prelude.{ℕ, List, [], ◌∷◌, if◌then◌else◌}
use Rattle.std.specs.List.{flat_map}
use Rattle.std.specs.Option.{option_map_or}
use Rattle.std.specs.Str.{bytes_eq}
use Rattle.language_types.specs.declared.position.SourcePosition.{SourcePosition}
use Rattle.language.specs.declared.tree.Selection.{Selection, fold-Selection}
use Rattle.language.specs.declared.tree.Selection.TheOpen as open_tree
use Rattle.language.specs.declared.tree.Definition.{Definition}
use Rattle.language.specs.declared.tree.Definition.TheVariants as definition

-- The name that is spread, and where the spread starts.
pub record PlacedSpread : Type 0 where
  pub name : List ℕ
  pub place : SourcePosition

-- Spreads in their order, with repeats.
abbrev pub PlacedSpreads : Type 0
PlacedSpreads = List PlacedSpread

-- One level of each kind of node, with the spreads of each node inside in its place.
abbrev pub selection_step : {S : Type 0} → open_tree.Selection-F S PlacedSpreads PlacedSpreads PlacedSpreads → PlacedSpreads
selection_step (open_tree.Field f) = f.item
selection_step (open_tree.FragmentSpread s) = record { name = s.item.name.item.now; place = s.span.start } ∷ []
selection_step (open_tree.InlineFragment i) = i.item

-- In a field: those of its selection set.
abbrev pub field_step : {S : Type 0} → open_tree.Field-F S PlacedSpreads PlacedSpreads PlacedSpreads → PlacedSpreads
field_step f = option_map_or (λ v. flat_map (λ ns. ns) v.items) f.selection_set []

-- In an inline fragment: those of its selection set.
abbrev pub inline_step : {S : Type 0} → open_tree.InlineFragment-F S PlacedSpreads PlacedSpreads PlacedSpreads → PlacedSpreads
inline_step i = flat_map (λ ns. ns) i.selection_set.items

-- The spreads in a selection, at any depth.
abbrev pub placed_spreads_of : {S : Type 0} → Selection S → PlacedSpreads
placed_spreads_of {S} = fold-Selection S PlacedSpreads PlacedSpreads PlacedSpreads selection_step field_step inline_step

-- Those of each selection of a set.
abbrev pub placed_spreads_of_all : {S : Type 0} → List (Selection S) → PlacedSpreads
placed_spreads_of_all set = flat_map placed_spreads_of set

-- The spreads inside a fragment's definition.
abbrev pub definition_spreads : {S : Type 0} → Definition S → PlacedSpreads
definition_spreads (definition.Operation o) = []
definition_spreads (definition.Fragment f) = placed_spreads_of_all f.item.selection_set.items

-- Those inside all definitions of fragments.
abbrev pub fragment_spreads : {S : Type 0} → List (Definition S) → PlacedSpreads
fragment_spreads document = flat_map definition_spreads document

-- Those of a definition, if it is that of a fragment of the name.
abbrev pub spreads_named : {S : Type 0} → List ℕ → Definition S → PlacedSpreads
spreads_named name (definition.Operation o) = []
spreads_named name (definition.Fragment f) =
    if bytes_eq f.item.name.item.now name then placed_spreads_of_all f.item.selection_set.items else []

-- Those inside all definitions of a name, in the document's order.
abbrev pub spreads_of_name : {S : Type 0} → List (Definition S) → List ℕ → PlacedSpreads
spreads_of_name document name = flat_map (spreads_named name) document
