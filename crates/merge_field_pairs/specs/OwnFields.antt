-- The own fields of a selection set, and the names that it spreads itself: inline fragments are opened, in order
-- (section 5.3.2).
use Rattle.std.specs.Prelude.{ℕ, List, [], ◌∷◌, Option, option_and_then}
use Rattle.std.specs.List.{flat_map}
use Rattle.std.specs.Option.{option_or}
use denote.Ref.{Bor}
use Rattle.language_types.specs.Types.{shape}
pub use Rattle.language_types.specs.Position.{Placed}
use Rattle.language.specs.declared.tree.Selection.{Selection, fold-Selection}
use Rattle.language.specs.declared.tree.Selection.TheOpen as opened
use Rattle.language.specs.declared.tree.Selection.TheFolds.{para-Selection}
use Rattle.language.specs.declared.tree.Field.{Field}
use Rattle.language.specs.declared.tree.InlineFragment.{InlineFragment}
use Rattle.meta.specs.declared.fields.Field as metadata
use Rattle.meta.specs.declared.kinds.MetaTypeOf.{MetaTypeOf}
use Rattle.meta.specs.Kinds.{field_named}
use Rattle.schema.specs.Catalog.{Catalog, type_in}
use Rattle.merge_field_pairs.specs.Entries.{PlainEntry}

-- what a node has of its own, under a type
abbrev pub OwnUnder : Type 0 → Type 0 → Type 0
OwnUnder S C = Option (MetaTypeOf S C) → List (PlainEntry S C)

-- a list of names
abbrev pub Names : Type 0
Names = List (List ℕ)

module _ {S C : Type 0} where
  -- the first field of the name, of the type around it
  abbrev pub metadata_under : Option (MetaTypeOf S C) → List ℕ → Option (metadata.Field S)
  metadata_under parent name = option_and_then (field_named name) parent

  -- a field under the type of its set
  abbrev pub entry_under : Option (MetaTypeOf S C) → Placed (Field S) → PlainEntry S C
  entry_under parent f = record { parent = parent; field = f; metadata = metadata_under parent f.item.name.item.now }

  -- the type inside an inline fragment: that of its condition where it is known, else that around it
  abbrev pub type_inside : Catalog S C → Option (MetaTypeOf S C) → Option (Placed (Bor (List ℕ))) → Option (MetaTypeOf S C)
  type_inside schema parent condition = option_or (option_and_then (λ n. type_in n.item.now schema) condition) parent

  -- the type of the set below a field: the innermost of the field's type, where that is known
  abbrev pub type_below : Catalog S C → PlainEntry S C → Option (MetaTypeOf S C)
  type_below schema a = option_and_then (λ m. type_in (shape m.field_type).name schema) a.metadata

  -- one level of each kind of node, with what each node inside has
  abbrev pub selection_step : opened.Selection-F S (Selection S × OwnUnder S C) (Field S × OwnUnder S C)
      (InlineFragment S × OwnUnder S C) → OwnUnder S C
  selection_step (opened.Field f) parent = entry_under parent (record { item = f.item.0; span = f.span }) ∷ []
  selection_step (opened.FragmentSpread s) parent = []
  selection_step (opened.InlineFragment i) parent = i.item.1 parent

  -- what stands below a field is not its set's own
  abbrev pub field_step : opened.Field-F S (Selection S × OwnUnder S C) (Field S × OwnUnder S C)
      (InlineFragment S × OwnUnder S C) → OwnUnder S C
  field_step f parent = []

  -- an inline fragment has what its members have, under the type inside it
  abbrev pub inline_step : Catalog S C → opened.InlineFragment-F S (Selection S × OwnUnder S C) (Field S × OwnUnder S C)
      (InlineFragment S × OwnUnder S C) → OwnUnder S C
  inline_step schema i parent = flat_map (λ c. c.1 (type_inside schema parent i.type_condition)) i.selection_set.items

  -- The own fields of a selection under a type. By cases:
  --   a field             itself
  --   a fragment spread   none
  --   an inline fragment  those of its set, under the type inside it
  abbrev pub own_fields_of : Catalog S C → Option (MetaTypeOf S C) → Selection S → List (PlainEntry S C)
  own_fields_of schema parent s =
      para-Selection S (OwnUnder S C) (OwnUnder S C) (OwnUnder S C) selection_step field_step (inline_step schema) s parent

  -- those of each selection of a set, one after the other
  abbrev pub own_fields : Catalog S C → Option (MetaTypeOf S C) → List (Selection S) → List (PlainEntry S C)
  own_fields schema parent set = flat_map (own_fields_of schema parent) set

-- one level of each kind of node, with the names of each node inside
abbrev pub spread_step : {S : Type 0} → opened.Selection-F S Names Names Names → Names
spread_step (opened.Field f) = []
spread_step (opened.FragmentSpread s) = s.item.name.item.now ∷ []
spread_step (opened.InlineFragment i) = i.item

-- nothing that stands below a field
abbrev pub no_spread_step : {S : Type 0} → opened.Field-F S Names Names Names → Names
no_spread_step f = []

-- those of each member of an inline fragment
abbrev pub inline_spread_step : {S : Type 0} → opened.InlineFragment-F S Names Names Names → Names
inline_spread_step i = flat_map (λ ns. ns) i.selection_set.items

-- The names that a selection spreads itself, and not below a field. By cases:
--   a field             none
--   a fragment spread   its name alone
--   an inline fragment  those of its set
abbrev pub own_spreads_of : {S : Type 0} → Selection S → Names
own_spreads_of {S} = fold-Selection S Names Names Names spread_step no_spread_step inline_spread_step

-- those of each selection of a set, in order, with repeats
abbrev pub own_spreads : {S : Type 0} → List (Selection S) → Names
own_spreads set = flat_map own_spreads_of set
