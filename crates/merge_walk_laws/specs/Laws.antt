-- The fields and sets that the search compares are those that occur.
use Rattle.std.specs.Prelude.{◌≡◌, ◌↔◌, List, Option, true, map}
use Rattle.std.specs.List.{Contains}
use Rattle.language_values.specs.ValuesEqual.{are_distinct, has_unique_keys}
use Rattle.language.specs.declared.tree.Arguments.{Arguments}
use Rattle.language.specs.declared.tree.Definition.{Definition}
use Rattle.language.specs.declared.tree.InlineFragment.{InlineFragment}
use Rattle.language.specs.declared.tree.Selection.{Selection}
use Rattle.language.specs.declared.tree.Selection.TheVariants as selection
use Rattle.meta.specs.declared.kinds.MetaTypeOf.{MetaTypeOf}
use Rattle.schema.specs.Catalog.{Catalog}
use Rattle.merge_field_pairs.specs.Entries.{PlainEntry, IsTidy}
use Rattle.merge_field_pairs.specs.OwnFields.{entry_under}
use Rattle.merge_field_pairs.specs.SameArguments.{Given, given_name, are_tidy}
use Rattle.merge_graph.specs.SetsIn.{IsSetIn, IsFieldIn}
use Rattle.events.specs.Node.{Placed, field, selection_set, inline_fragment}
use Rattle.events.specs.Typing.{Typing}
use Rattle.merge_walk_laws.specs.Occurring.{given_in, Occurs, OccursUnder, AreFieldsTidy}

module _ (S C : Type 0) where
  -- Each field of a document occurs in it, whatever the types around the document.
  abbrev pub FieldsOccur : Type 0
  FieldsOccur =
      (schema : Catalog S C) (t : Typing S C) (document : List (Definition S)) (a : PlainEntry S C)
      → IsFieldIn schema document a → Occurs schema t document (field a.field)

  -- So does each set.
  abbrev pub SetsOccur : Type 0
  SetsOccur =
      (schema : Catalog S C) (t : Typing S C) (document : List (Definition S)) (parent : Option (MetaTypeOf S C)) (set : List (Selection S))
      → IsSetIn schema document parent set → Occurs schema t document (selection_set set)

  -- And each inline fragment of a set.
  abbrev pub InlinesOccur : Type 0
  InlinesOccur =
      (schema : Catalog S C) (t : Typing S C) (document : List (Definition S)) (parent : Option (MetaTypeOf S C)) (set : List (Selection S))
      → IsSetIn schema document parent set → (i : Placed (InlineFragment S)) → Contains set (selection.InlineFragment i)
      → Occurs schema t document (inline_fragment i)

  -- Where the fields that occur are tidy, all fields of the document are.
  abbrev pub FieldsAreTidy : Type 0
  FieldsAreTidy =
      (schema : Catalog S C) (t : Typing S C) (document : List (Definition S)) → AreFieldsTidy schema t document
      → (a : PlainEntry S C) → IsFieldIn schema document a → IsTidy a

  -- A set stands in the document under a type if and only if it occurs, and its types have that type as the parent.
  abbrev pub SetsAgree : Type 0
  SetsAgree =
      (schema : Catalog S C) (t : Typing S C) (document : List (Definition S))
      → (parent : Option (MetaTypeOf S C)) (set : List (Selection S)) → IsSetIn schema document parent set
      ↔ OccursUnder schema t document parent (selection_set set)

  -- A field stands in the document, with what the schema says of it, if and only if it occurs under that parent.
  abbrev pub FieldsAgree : Type 0
  FieldsAgree =
      (schema : Catalog S C) (t : Typing S C) (document : List (Definition S))
      → (a : PlainEntry S C) → IsFieldIn schema document a
      ↔ (OccursUnder schema t document a.parent (field a.field) × (a ≡ entry_under a.parent a.field))

-- Arguments are tidy if and only if their names differ, and no value repeats a key.
abbrev pub TidyArguments : Type 0 → Type 0
TidyArguments S =
    (written : Option (Placed (Arguments S)))
    → (are_tidy written ≡ true)
    ↔ ((are_distinct (map given_name (given_in written)) ≡ true)
    × ((g : Given S) → Contains (given_in written) g → has_unique_keys g.1.item ≡ true))
