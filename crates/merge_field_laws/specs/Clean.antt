-- The merging of two fields of a document in which the rules of the first stage find nothing.
use Rattle.std.specs.Prelude.{◌↔◌, List, Bool, true, false, Option}
use Rattle.language.specs.declared.tree.Selection.{Selection}
use Rattle.language.specs.declared.tree.Definition.{Definition}
use Rattle.meta.specs.declared.kinds.MetaTypeOf.{MetaTypeOf}
use Rattle.schema.specs.Catalog.{Catalog}
use Rattle.merge_field_pairs.specs.Entries.{PlainEntry}
use Rattle.merge_graph.specs.SetsIn.{IsFieldIn}
use Rattle.merge_document.specs.Merging.{Merges, SetMerges}
use Rattle.events.specs.Typing.{Typing}
use Rattle.walk.specs.ContextState.{scope_of}
use Rattle.validation.specs.Stages.{IsValid, Rules}
use Rattle.merge_field_laws.specs.Laws.{IsBelow}

-- How two fields of a document merge.
pub record MergesFairly {S C : Type 0} (E : S → S → Bool) (schema : Catalog S C) (document : List (Definition S)) : Type 0 where
  -- in one order if and only if in the other
  pub either_order : (e : Bool) (a b : PlainEntry S C) → IsFieldIn schema document a → IsFieldIn schema document b
      → Merges E schema document e a b ↔ Merges E schema document e b a
  -- where they merge, they do so where no object is asked for both
  pub where_exclusive : (a b : PlainEntry S C) → Merges E schema document false a b → Merges E schema document true a b
  -- and a field with itself, once all sets below it merge
  pub with_itself : (a : PlainEntry S C) → IsFieldIn schema document a
      → ((p : Option (MetaTypeOf S C)) (set : List (Selection S)) → IsBelow schema document a p set → SetMerges E schema document p set)
      → (e : Bool) → Merges E schema document e a a

module _ {S C : Type 0} (rules : Rules S C) where
  -- So the fields of a document merge where the rules of the first stage find nothing.
  abbrev pub CleanMergesFairly : Type 0
  CleanMergesFairly =
      (schema : Catalog S C) (t : Typing S C) (document : List (Definition S))
      → rules.first_stage.find_nothing (scope_of schema document) t document
      → MergesFairly rules.same schema document

  -- And each field of a valid document merges with itself.
  abbrev pub ValidMergesWithItself : Type 0
  ValidMergesWithItself =
      (schema : Catalog S C) (t : Typing S C) (document : List (Definition S)) → IsValid rules (scope_of schema document) t document
      → (a : PlainEntry S C) → IsFieldIn schema document a → (e : Bool) → Merges rules.same schema document e a a
