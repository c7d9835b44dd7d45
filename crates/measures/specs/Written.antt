-- The measures of a selection set with its fragments written out.
use Rattle.std.specs.Prelude.{ℕ, ◌+◌, zero, suc, List, [], ◌∷◌, length, map, Option, if◌then◌else◌}
use Rattle.std.specs.Option.{option_map_or}
use Rattle.std.specs.Str.{bytes_eq}
use Rattle.language.specs.declared.tree.Definition.{Definition}
use Rattle.language.specs.declared.tree.Definition.TheVariants as definition
use Rattle.language.specs.declared.tree.Selection.{Selection, fold-Selection}
use Rattle.language.specs.declared.tree.Selection.TheOpen as open_tree
use Rattle.measures.specs.declared.measure.Measures.{Measures}
use Rattle.measures.specs.Measure.{nothing, all_together, directive_count, with_directives}
use Rattle.measures.specs.Names.{is_entry, is_listing}

-- What a field counts, by its name, how many aliases and directives it has, and what its selection set counts.
unfoldable pub field_measures : List ℕ → ℕ → ℕ → Measures → Measures
field_measures name aliases directives inner = record {
  depth = 1 + inner.depth;
  fields = 1 + inner.fields;
  root_fields = 1;
  aliases = aliases + inner.aliases;
  directives = directives + inner.directives;
  introspection_depth = if is_entry name then inner.listed_depth else inner.introspection_depth;
  listed_depth = (if is_listing name then 1 else 0) + inner.listed_depth;
}

-- 1 if there is an alias
abbrev pub alias_count : {T : Type 0} → Option T → ℕ
alias_count alias = option_map_or (λ _. 1) alias 0

-- One level of each kind of node, with the measures of each node inside in its place. By cases:
--   a field             by its selection set
--   a fragment spread   what the fragment of the name counts, and the directives of the spread
--   an inline fragment  what its selection set counts, and its directives
abbrev pub selection_step : {S : Type 0} → (List ℕ → Measures) → open_tree.Selection-F S Measures Measures Measures
    → Measures
selection_step fragment (open_tree.Field f) = f.item
selection_step fragment (open_tree.FragmentSpread s) =
    with_directives (directive_count s.item.directives) (fragment s.item.name.item.now)
selection_step fragment (open_tree.InlineFragment i) = i.item

abbrev pub field_step : {S : Type 0} → open_tree.Field-F S Measures Measures Measures → Measures
field_step f =
    field_measures f.name.item.now (alias_count f.alias) (directive_count f.directives)
    (option_map_or (λ v. all_together v.items) f.selection_set nothing)

abbrev pub inline_step : {S : Type 0} → open_tree.InlineFragment-F S Measures Measures Measures → Measures
inline_step i = with_directives (directive_count i.directives) (all_together i.selection_set.items)

-- The measures of a selection, by those of the fragments.
abbrev pub measures_of : {S : Type 0} → (List ℕ → Measures) → Selection S → Measures
measures_of {S} fragment = fold-Selection S Measures Measures Measures (selection_step fragment) field_step inline_step

-- Those of a selection set.
abbrev pub set_measures : {S : Type 0} → (List ℕ → Measures) → List (Selection S) → Measures
set_measures fragment set = all_together (map (measures_of fragment) set)

-- The selection set of the first fragment of the name; [] where there is none.
abbrev pub fragment_set : {S : Type 0} → List (Definition S) → List ℕ → List (Selection S)
fragment_set [] name = []
fragment_set (definition.Operation o ∷ document) name = fragment_set document name
fragment_set (definition.Fragment f ∷ document) name =
    if bytes_eq f.item.name.item.now name then f.item.selection_set.items else fragment_set document name

-- The measures of the fragment of a name, with the spreads in it written out to so many levels.
abbrev pub written_out : {S : Type 0} → ℕ → List (Definition S) → List ℕ → Measures
written_out zero document name = nothing
written_out (suc levels) document name = set_measures (written_out levels document) (fragment_set document name)

-- The measures of a selection set with its fragments written out. Without a cycle no spread is below as many others
-- as the document has definitions, so that as many levels are all.
abbrev pub written_measures : {S : Type 0} → List (Definition S) → List (Selection S) → Measures
written_measures document set = set_measures (written_out (length document) document) set
