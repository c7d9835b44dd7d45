-- Sets that are parts of others, as that of an inline fragment is of the set round it.
use Rattle.std.specs.Prelude.{ℕ, List, Option}
use Rattle.std.specs.List.{Contains}
use Rattle.language.specs.declared.tree.Selection.{Selection}
use Rattle.meta.specs.declared.kinds.MetaTypeOf.{MetaTypeOf}
use Rattle.schema.specs.Catalog.{Catalog}
use Rattle.merge_field_pairs.specs.Entries.{PlainEntry}
use Rattle.merge_field_pairs.specs.OwnFields.{own_fields, own_spreads}
use Rattle.merge_set_table.specs.Table.{Numbered}
use Rattle.merge_set_table.specs.Represents.{IsSetOf}

module _ {S C : Type 0} (schema : Catalog S C) where
  -- The own fields of the one set, under its type, are own fields of the other under its own; the names that the one
  -- spreads the other spreads, too.
  pub record IsPartOf (q : Option (MetaTypeOf S C)) (inner : List (Selection S)) (p : Option (MetaTypeOf S C))
      (set : List (Selection S)) : Type 0 where
    pub fields : (a : PlainEntry S C) → Contains (own_fields schema q inner) a → Contains (own_fields schema p set) a
    pub names : (name : List ℕ) → Contains (own_spreads inner) name → Contains (own_spreads set) name

  -- The set is a part of that of the number, or the very set.
  pub record IsPartAt (numbers : List ℕ → Option ℕ) (m : Numbered S C) (n : ℕ) (q : Option (MetaTypeOf S C))
      (inner : List (Selection S)) : Type 0 where
    pub type : Option (MetaTypeOf S C)
    pub set : List (Selection S)
    pub is : IsSetOf schema numbers m n type set
    pub part : IsPartOf q inner type set
