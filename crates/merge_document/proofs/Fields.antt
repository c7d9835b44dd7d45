-- Fields of a document, and the numbers that a search has in their place.
use Rattle.std.proofs.Common.{◌≡◌, ℕ, zero, suc, List, Bool, Option, Some, slice_get, refl, sym, ap, subst, ◌∙◌}
use Rattle.std.specs.Option.{is_some}
use Rattle.std.specs.declared.vec.Vec.{Vec}
use Rattle.std.specs.declared.alloc.Global.{Global}
use Rattle.language.specs.declared.tree.Selection.{Selection}
use Rattle.schema.specs.Catalog.{Catalog}
use Rattle.merge_field_pairs.specs.Entries.{PlainEntry, response_of, exclusive_of}
use Rattle.merge_field_pairs.specs.OwnFields.{type_below}
use Rattle.merge_field_pairs.specs.DirectReason.{direct_of}
use Rattle.merge_field_pairs.specs.Numbered.{exclusive_between, direct_between}
use Rattle.merge_sets.specs.declared.node.Entry.{Entry}
use Rattle.merge_sets.specs.Judgement.{Judgement}
use Rattle.merge_set_table.specs.Names.{number_in, AreApart}
use Rattle.merge_set_table.specs.Table.{Numbered, IsOwnField}
use Rattle.merge_set_table.specs.Represents.{IsSetOf}
use Rattle.merge_set_table.specs.OwnParts.{IsFieldOf, without_set, with_set, AreFieldsOf, no_fields, more_fields}
use Rattle.merge_graph.specs.Judging.{judgement_by}
use Rattle.fragment_graph.proofs.Lists.{same_some, none_some, same_item}

module _ {S C : Type 0} (schema : Catalog S C) (numbers : List ℕ → Option ℕ) (m : Numbered S C) where
  -- the numbers are those of the field
  abbrev pub IsEntryOf : PlainEntry S C → Entry → Type 0
  IsEntryOf x a = IsFieldOf schema numbers m x a

  pub own_field : {x : PlainEntry S C} {o : Entry} → IsFieldOf schema numbers m x o → IsOwnField m x o
  own_field (without_set is none bare) = is
  own_field (with_set w n is some at set) = is

  pub one_field : {x y : PlainEntry S C} {a : Entry} → slice_get m.fields a.field ≡ Some x → IsEntryOf y a → y ≡ x
  one_field {x} {y} {a} at f = same_item y x (slice_get m.fields a.field) (own_field f).field at

  pub field_got : {os : List (PlainEntry S C)} {own : List Entry} → AreFieldsOf schema numbers m os own → (k : ℕ) (o : Entry) → slice_get own k ≡ Some o
      → (x : PlainEntry S C) × (slice_get os k ≡ Some x) × IsFieldOf schema numbers m x o
  field_got no_fields k o h = absurd (none_some o h)
  field_got (more_fields {o = x} {a = a} f r) zero o h = (x, refl, subst (λ (z : Entry). IsFieldOf schema numbers m x z) (same_some a o h) f)
  field_got (more_fields f r) (suc k) o h = field_got r k o h

  pub number_got : {os : List (PlainEntry S C)} {own : List Entry} → AreFieldsOf schema numbers m os own → (k : ℕ) (x : PlainEntry S C) → slice_get os k ≡ Some x
      → (o : Entry) × (slice_get own k ≡ Some o) × IsFieldOf schema numbers m x o
  number_got no_fields k x h = absurd (none_some x h)
  number_got (more_fields {o = y} {a = a} f r) zero x h = (a, refl, subst (λ (z : PlainEntry S C). IsFieldOf schema numbers m z a) (same_some y x h) f)
  number_got (more_fields f r) (suc k) x h = number_got r k x h

  -- the set below a field has the number that the entry has below it
  pub set_below : {x : PlainEntry S C} {a : Entry} {s : ℕ} → IsEntryOf x a → a.below ≡ Some s
      → (w : Vec (Selection S) Global) × (x.field.item.selection_set ≡ Some w) × IsSetOf schema numbers m s (type_below schema x) w.items
  set_below {a = a} {s = s} (without_set is none bare) h = absurd (none_some s (sym bare ∙ h))
  set_below {x = x} {a = a} {s = s} (with_set w n is some at set) h =
      (w, some, subst (λ (k : ℕ). IsSetOf schema numbers m k (type_below schema x) w.items) (same_item n s a.below at h) set)

  pub number_below : {x : PlainEntry S C} {a : Entry} {w : Vec (Selection S) Global} → IsEntryOf x a → x.field.item.selection_set ≡ Some w
      → (s : ℕ) × (a.below ≡ Some s) × IsSetOf schema numbers m s (type_below schema x) w.items
  number_below {x = x} {w = w} (without_set is none bare) h = absurd (none_some w (sym none ∙ h))
  number_below {x = x} {w = w} (with_set v n is some at set) h =
      (n, at, subst (λ (u : Vec (Selection S) Global). IsSetOf schema numbers m n (type_below schema x) u.items) (same_item v w x.field.item.selection_set some h) set)

  -- one response name, one number
  pub same_name : AreApart m.responses → {x y : PlainEntry S C} {a b : Entry} → IsEntryOf x a → IsEntryOf y b → a.response ≡ b.response → response_of x ≡ response_of y
  same_name apart {x} {y} {a} {b} f g same =
      apart.apart (response_of x) (response_of y) b.response ((own_field f).response ∙ ap (λ (k : ℕ). Some k) same) (own_field g).response

  pub same_number : {x y : PlainEntry S C} {a b : Entry} → IsEntryOf x a → IsEntryOf y b → response_of x ≡ response_of y → a.response ≡ b.response
  same_number {x} {y} {a} {b} f g same =
      same_item a.response b.response (number_in m.responses (response_of y)) (subst (λ (n : List ℕ). number_in m.responses n ≡ Some a.response) same (own_field f).response) (own_field g).response

  module _ (E : S → S → Bool) {x y : PlainEntry S C} {a b : Entry} (f : IsEntryOf x a) (g : IsEntryOf y b) where
    pub conflict_is : (j : Judgement) → j ≡ judgement_by E schema m.fields → (e : Bool) → j.conflict e a.field b.field ≡ is_some (direct_of E schema e x y)
    conflict_is j is e =
        ap (λ (i : Judgement). i.conflict e a.field b.field) is
        ∙ ap (λ (o : Option (PlainEntry S C)). is_some (direct_between E schema e o (slice_get m.fields b.field))) (own_field f).field
        ∙ ap (λ (o : Option (PlainEntry S C)). is_some (direct_between E schema e (Some x) o)) (own_field g).field

    pub exclusive_is : (j : Judgement) → j ≡ judgement_by E schema m.fields → (e : Bool) → j.exclusive e a.field b.field ≡ exclusive_of e x y
    exclusive_is j is e =
        ap (λ (i : Judgement). i.exclusive e a.field b.field) is
        ∙ ap (λ (o : Option (PlainEntry S C)). exclusive_between e o (slice_get m.fields b.field)) (own_field f).field
        ∙ ap (λ (o : Option (PlainEntry S C)). exclusive_between e (Some x) o) (own_field g).field
