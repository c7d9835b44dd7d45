-- Laws of the merging of two fields of a document.
use Rattle.std.specs.Prelude.{◌≡◌, ◌↔◌, List, Bool, true, false, Option, Some}
use Rattle.std.specs.declared.vec.Vec.{Vec}
use Rattle.std.specs.declared.alloc.Global.{Global}
use Rattle.language.specs.declared.tree.Selection.{Selection}
use Rattle.language.specs.declared.tree.Definition.{Definition}
use Rattle.meta.specs.declared.kinds.MetaTypeOf.{MetaTypeOf}
use Rattle.schema.specs.Catalog.{Catalog}
use Rattle.fragment_graph.specs.DocumentCycles.{HasNoCycle}
use Rattle.merge_field_pairs.specs.Entries.{PlainEntry}
use Rattle.merge_field_pairs.specs.OwnFields.{type_below}
use Rattle.merge_graph.specs.SetsIn.{IsFieldIn, HasKnownConditions}
use Rattle.merge_document.specs.WrittenOut.{Stands}
use Rattle.merge_document.specs.Merging.{Merges, SetMerges, DocumentMerges}
use Rattle.merge_document.specs.Conflicts.{IsTidyDocument}

-- The sets below a field, at any depth: that of the field itself, and those below each field that stands there written
-- out.
pub data IsBelow {S C : Type 0} (schema : Catalog S C) (document : List (Definition S)) : PlainEntry S C
    → Option (MetaTypeOf S C) → List (Selection S) → Type 0 where
  next : {a : PlainEntry S C} {w : Vec (Selection S) Global} → a.field.item.selection_set ≡ Some w
      → IsBelow schema document a (type_below schema a) w.items
  deeper : {a b : PlainEntry S C} {w : Vec (Selection S) Global} {p : Option (MetaTypeOf S C)} {set : List (Selection S)}
      → a.field.item.selection_set ≡ Some w → Stands schema document (type_below schema a) w.items b
      → IsBelow schema document b p set → IsBelow schema document a p set

module _ (S C : Type 0) (E : S → S → Bool) where
  -- Two fields of a tidy document merge just if they do in the other order.
  abbrev pub MergesEitherOrder : Type 0
  MergesEitherOrder =
      (schema : Catalog S C) (document : List (Definition S)) → IsTidyDocument schema document
      → (e : Bool) (a b : PlainEntry S C) → IsFieldIn schema document a → IsFieldIn schema document b
      → Merges E schema document e a b ↔ Merges E schema document e b a

  -- Two fields that merge do so, too, where no object is asked for both.
  abbrev pub MergesWhereExclusive : Type 0
  MergesWhereExclusive =
      (schema : Catalog S C) (document : List (Definition S)) (a b : PlainEntry S C)
      → Merges E schema document false a b → Merges E schema document true a b

  -- In a tidy document with no cycle of fragments, a field merges with itself where all sets below it merge.
  abbrev pub MergesWithItself : Type 0
  MergesWithItself =
      (schema : Catalog S C) (document : List (Definition S)) → IsTidyDocument schema document → HasNoCycle document
      → (a : PlainEntry S C) → IsFieldIn schema document a
      → ((p : Option (MetaTypeOf S C)) (set : List (Selection S)) → IsBelow schema document a p set → SetMerges E schema document p set)
      → (e : Bool) → Merges E schema document e a a

  -- So where the document merges, and the conditions of its inline fragments are known, each of its fields merges with
  -- itself.
  abbrev pub EachMergesWithItself : Type 0
  EachMergesWithItself =
      (schema : Catalog S C) (document : List (Definition S)) → IsTidyDocument schema document
      → HasKnownConditions schema document → HasNoCycle document → DocumentMerges E schema document
      → (a : PlainEntry S C) → IsFieldIn schema document a → (e : Bool) → Merges E schema document e a a
