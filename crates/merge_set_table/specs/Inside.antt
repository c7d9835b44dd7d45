-- The selection sets inside a set, each with the type around it (section 5.3.2).
use Rattle.std.specs.Prelude.{◌≡◌, ℕ, List, Option, Some}
use Rattle.std.specs.List.{Contains}
use Rattle.std.specs.Option.{option_map_or}
use denote.Ref.{Bor}
use Rattle.std.specs.declared.vec.Vec.{Vec}
use Rattle.std.specs.declared.alloc.Global.{Global}
use Rattle.language.specs.declared.tree.Selection.{Selection}
use Rattle.language.specs.declared.tree.Selection.TheVariants as selection
use Rattle.language.specs.declared.tree.Field.{Field}
use Rattle.language.specs.declared.tree.InlineFragment.{InlineFragment}
use Rattle.meta.specs.declared.kinds.MetaTypeOf.{MetaTypeOf}
use Rattle.schema.specs.Catalog.{Catalog, type_in}
use Rattle.merge_field_pairs.specs.Entries.{PlainEntry}
use Rattle.merge_field_pairs.specs.OwnFields.{Placed, entry_under, type_below}

-- The type under which a walk enters the set of an inline fragment: that of its condition, which may be unknown, or
-- without one the type around it.
abbrev pub type_entered : {S C : Type 0} → Catalog S C → Option (MetaTypeOf S C) → Option (Placed (Bor (List ℕ))) → Option (MetaTypeOf S C)
type_entered schema parent condition = option_map_or (λ n. type_in n.item.now schema) condition parent

-- Itself; and of each set inside, those below its fields and those of its inline fragments.
pub data IsInside {S C : Type 0} (schema : Catalog S C) (p : Option (MetaTypeOf S C))
    (set : List (Selection S)) : Option (MetaTypeOf S C) → List (Selection S) → Type 0 where
  itself : IsInside schema p set p set
  below_field : {q : Option (MetaTypeOf S C)} {inner : List (Selection S)} (f : Placed (Field S)) (w : Vec (Selection S) Global)
      → IsInside schema p set q inner → Contains inner (selection.Field f) → f.item.selection_set ≡ Some w
      → IsInside schema p set (type_below schema (entry_under q f)) w.items
  of_inline : {q : Option (MetaTypeOf S C)} {inner : List (Selection S)} (i : Placed (InlineFragment S))
      → IsInside schema p set q inner → Contains inner (selection.InlineFragment i)
      → IsInside schema p set (type_entered schema q i.item.type_condition) i.item.selection_set.items

-- The field stands in some set inside, under whatever type.
pub record IsFieldInside {S C : Type 0} (schema : Catalog S C) (p : Option (MetaTypeOf S C)) (set : List (Selection S))
    (a : PlainEntry S C) : Type 0 where
  pub type : Option (MetaTypeOf S C)
  pub inner : List (Selection S)
  pub inside : IsInside schema p set type inner
  pub stands : Contains inner (selection.Field a.field)

-- The condition names a type of the schema, if there is one.
abbrev pub IsConditionKnown : {S C : Type 0} → Catalog S C → Option (Placed (Bor (List ℕ))) → Type 0
IsConditionKnown {S} {C} schema condition =
    (name : Placed (Bor (List ℕ))) → condition ≡ Some name → (m : MetaTypeOf S C)
    × (type_in name.item.now schema ≡ Some m)

-- So does that of each inline fragment inside.
abbrev pub AreConditionsKnown : {S C : Type 0} → Catalog S C → Option (MetaTypeOf S C) → List (Selection S) → Type 0
AreConditionsKnown {S} {C} schema p set =
    (q : Option (MetaTypeOf S C)) (inner : List (Selection S)) → IsInside schema p set q inner
    → (i : Placed (InlineFragment S)) → Contains inner (selection.InlineFragment i) → IsConditionKnown schema i.item.type_condition

-- The sets inside, but for the set itself: those of its fields and inline fragments.
pub data IsDeeper {S C : Type 0} (schema : Catalog S C) (p : Option (MetaTypeOf S C)) (set : List (Selection S))
    (q : Option (MetaTypeOf S C)) (inner : List (Selection S)) : Type 0 where
  of_field : (f : Placed (Field S)) (w : Vec (Selection S) Global) → Contains set (selection.Field f) → f.item.selection_set ≡ Some w
      → IsInside schema (type_below schema (entry_under p f)) w.items q inner → IsDeeper schema p set q inner
  of_fragment : (i : Placed (InlineFragment S)) → Contains set (selection.InlineFragment i)
      → IsInside schema (type_entered schema p i.item.type_condition) i.item.selection_set.items q inner → IsDeeper schema p set q inner
