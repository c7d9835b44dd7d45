-- The own fields of a set by number.
use Rattle.std.specs.Prelude.{◌≡◌, ℕ, List, [], ◌∷◌, Option, Some, None, true}
use Rattle.std.specs.List.{Contains}
use Rattle.std.specs.declared.vec.Vec.{Vec}
use Rattle.std.specs.declared.alloc.Global.{Global}
use Rattle.language.specs.declared.tree.Selection.{Selection}
use Rattle.schema.specs.Catalog.{Catalog}
use Rattle.merge_field_pairs.specs.Entries.{PlainEntry}
use Rattle.merge_field_pairs.specs.OwnFields.{type_below, Names}
use Rattle.merge_sets.specs.declared.node.Entry.{Entry as OwnField}
use Rattle.merge_set_table.specs.Once.{is_among}
use Rattle.merge_set_table.specs.Table.{Numbered, IsOwnField}
use Rattle.merge_set_table.specs.Represents.{IsSetOf}

module _ {S C : Type 0} (schema : Catalog S C) (numbers : List ℕ → Option ℕ) (m : Numbered S C) where
  -- A field by number: the set below it, if there is one, is that of its selections under the field's type.
  pub data IsFieldOf : PlainEntry S C → OwnField → Type 0 where
    without_set : {o : PlainEntry S C} {a : OwnField} → IsOwnField m o a → o.field.item.selection_set ≡ None
        → a.below ≡ None → IsFieldOf o a
    with_set : {o : PlainEntry S C} {a : OwnField} (w : Vec (Selection S) Global) (n : ℕ) → IsOwnField m o a
        → o.field.item.selection_set ≡ Some w → a.below ≡ Some n
        → IsSetOf schema numbers m n (type_below schema o) w.items → IsFieldOf o a

  -- One for one, in order.
  pub data AreFieldsOf : List (PlainEntry S C) → List OwnField → Type 0 where
    no_fields : AreFieldsOf [] []
    more_fields : {o : PlainEntry S C} {a : OwnField} {os : List (PlainEntry S C)} {own : List OwnField} → IsFieldOf o a
        → AreFieldsOf os own → AreFieldsOf (o ∷ os) (a ∷ own)

-- The numbers of the names that have one, and no others.
pub record AreNumbersOf (numbers : List ℕ → Option ℕ) (names : Names) (to : List ℕ) : Type 0 where
  pub each : (name : List ℕ) (g : ℕ) → Contains names name → numbers name ≡ Some g → is_among to g ≡ true
  pub none_other : (g : ℕ) → is_among to g ≡ true → (name : List ℕ) × Contains names name × (numbers name ≡ Some g)
