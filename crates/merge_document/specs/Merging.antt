-- When fields can be merged (section 5.3.2).
use Rattle.std.specs.Prelude.{◌≡◌, List, Bool, true, false, Option, Some, None}
use Rattle.std.specs.Option.{is_some}
use Rattle.std.specs.declared.vec.Vec.{Vec}
use Rattle.std.specs.declared.alloc.Global.{Global}
use Rattle.language.specs.declared.tree.Selection.{Selection}
use Rattle.language.specs.declared.tree.Definition.{Definition}
use Rattle.meta.specs.declared.kinds.MetaTypeOf.{MetaTypeOf}
use Rattle.schema.specs.Catalog.{Catalog}
use Rattle.merge_field_pairs.specs.Entries.{PlainEntry, response_of, exclusive_of}
use Rattle.merge_field_pairs.specs.OwnFields.{type_below}
use Rattle.merge_field_pairs.specs.DirectReason.{direct_of}
use Rattle.merge_graph.specs.SetsIn.{IsSetIn}
use Rattle.merge_document.specs.WrittenOut.{Stands, Apart}

module _ {S C : Type 0} where
  -- one response name
  abbrev pub Same : PlainEntry S C → PlainEntry S C → Type 0
  Same a b = response_of a ≡ response_of b

module _ {S C : Type 0} (E : S → S → Bool) (schema : Catalog S C) where
  -- The two fail by themselves: by names, arguments or types; the flag says that they stand where no object is asked
  -- for both.
  abbrev pub Fails : Bool → PlainEntry S C → PlainEntry S C → Type 0
  Fails e a b = is_some (direct_of E schema e a b) ≡ true

  -- There is nothing between the two by themselves.
  abbrev pub Passes : Bool → PlainEntry S C → PlainEntry S C → Type 0
  Passes e a b = direct_of E schema e a b ≡ None

module _ {S C : Type 0} (E : S → S → Bool) (schema : Catalog S C) (document : List (Definition S)) where
  -- A pair of one response name from the written-out sets below two fields.
  pub data Below (a b : PlainEntry S C) : PlainEntry S C → PlainEntry S C → Type 0 where
    below : {c d : PlainEntry S C} {v w : Vec (Selection S) Global}
        → a.field.item.selection_set ≡ Some v → b.field.item.selection_set ≡ Some w
        → Stands schema document (type_below schema a) v.items c
        → Stands schema document (type_below schema b) w.items d → Same c d → Below a b c d

  -- They pass, and so do all pairs below them, no less excluded.
  pub data Merges : Bool → PlainEntry S C → PlainEntry S C → Type 0 where
    merges : {e : Bool} {a b : PlainEntry S C} → Passes E schema e a b
        → ((c d : PlainEntry S C) → Below a b c d → Merges (exclusive_of e a b) c d) → Merges e a b

  -- Each two places of the written-out set that have one response name.
  abbrev pub SetMerges : Option (MetaTypeOf S C) → List (Selection S) → Type 0
  SetMerges p set = (a b : PlainEntry S C) → Apart schema document p set a b → Same a b → Merges false a b

  -- Each set of the document.
  abbrev pub DocumentMerges : Type 0
  DocumentMerges = (p : Option (MetaTypeOf S C)) (set : List (Selection S)) → IsSetIn schema document p set → SetMerges p set

  -- A way from a pair down to one that fails.
  pub data Way : Bool → PlainEntry S C → PlainEntry S C → Type 0 where
    here : {e : Bool} {a b : PlainEntry S C} → Fails E schema e a b → Way e a b
    down : {e : Bool} {a b c d : PlainEntry S C} → Below a b c d → Way (exclusive_of e a b) c d → Way e a b
