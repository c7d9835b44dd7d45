-- The selection sets and fields of a document, each with the type around it (section 5.3.2).
use Rattle.std.specs.Prelude.{◌≡◌, List, Option}
use Rattle.std.specs.List.{Contains}
use Rattle.language.specs.declared.tree.Selection.{Selection}
use Rattle.language.specs.declared.tree.Selection.TheVariants as selection
use Rattle.language.specs.declared.tree.Definition.{Definition}
use Rattle.meta.specs.declared.kinds.MetaTypeOf.{MetaTypeOf}
use Rattle.schema.specs.Catalog.{Catalog}
use Rattle.merge_field_pairs.specs.Entries.{PlainEntry}
use Rattle.merge_field_pairs.specs.OwnFields.{entry_under}
use Rattle.merge_set_table.specs.Inside.{IsInside, AreConditionsKnown}
use Rattle.merge_graph.specs.Definitions.{type_round, selections_of}

module _ {S C : Type 0} (schema : Catalog S C) (document : List (Definition S)) where
  -- The set stands in some definition of the document, at any depth.
  abbrev pub IsSetIn : Option (MetaTypeOf S C) → List (Selection S) → Type 0
  IsSetIn p set = (d : Definition S) × Contains document d × IsInside schema (type_round schema d) (selections_of d) p set

  -- The field stands in some set of the document.
  abbrev pub IsFieldIn : PlainEntry S C → Type 0
  IsFieldIn a = (p : Option (MetaTypeOf S C)) × (set : List (Selection S)) × IsSetIn p set
      × Contains set (selection.Field a.field) × (a ≡ entry_under p a.field)

  -- The field stands in some set of the document, under whatever type.
  abbrev pub IsNodeIn : PlainEntry S C → Type 0
  IsNodeIn a = (p : Option (MetaTypeOf S C)) × (set : List (Selection S)) × IsSetIn p set × Contains set (selection.Field a.field)

  -- The type condition of each inline fragment of the document names a type of the schema.
  abbrev pub HasKnownConditions : Type 0
  HasKnownConditions = (d : Definition S) → Contains document d → AreConditionsKnown schema (type_round schema d) (selections_of d)
