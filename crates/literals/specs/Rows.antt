-- The cases of a value and a type, after the modifiers that the value passes are removed.
use Rattle.std.specs.Prelude.{◌≡◌, ◌<◌, ⊤, ℕ, List, length, Option, Some, None, is_some, true}
use Rattle.language_types.specs.declared.position.Span.{Span}
use Rattle.language_types.specs.declared.position.Spanning.{Spanning}
use Rattle.language_values.specs.declared.value.InputValue.{InputValue}
use Rattle.language_values.specs.declared.value.InputValue.TheOpen as v
use Rattle.language_values.specs.Values.{list_items}
use Rattle.meta.specs.Answers.{Answers}
use Rattle.schema.specs.Catalog.{Catalog}
use Rattle.schema.specs.Wrapped.{WrappedMeta, plain_meta}
use Rattle.literals.specs.declared.rows.Row.{Row}
use Rattle.literals.specs.declared.rows.Row.TheVariants as r
use Rattle.literals.specs.declared.rows.Step.{Step}
use Rattle.literals.specs.declared.rows.Step.TheVariants as s
use Rattle.literals.specs.Expected.{expected_type}
use Rattle.literals.specs.FirstFault.{FirstFault}
use Rattle.literals.specs.Judged.{IsNone, Judged, printed_type}
use Rattle.literals.specs.Texts.{null_text, length_text}

-- the number of items that a value has for a list type
abbrev pub item_count : {S A : Type 0} → v.InputValue-F S A → Option ℕ
item_count v.Null = None
item_count (v.Variable n) = None
item_count (v.List xs) = Some (length xs.items)
item_count (v.Scalar s) = Some 1
item_count (v.Enum n) = Some 1
item_count (v.Object es) = Some 1

module _ {S C : Type 0} where
  -- the metadata of the case is that of the type
  abbrev pub HasMeta : WrappedMeta S C → Row S C → Type 0
  HasMeta w r.Conforms = ⊤
  HasMeta w (r.Null at) = ⊤
  HasMeta w (r.Length e f) = ⊤
  HasMeta w (r.Items inner) = (expected_type inner).meta ≡ w.meta
  HasMeta w (r.Plain meta) = meta.now ≡ w.meta

  -- and that of a type which the value comes to
  abbrev pub HasStepMeta : WrappedMeta S C → Step S C → Type 0
  HasStepMeta w (s.Decides row) = HasMeta w row
  HasStepMeta w (s.Passes inner) = (expected_type inner).meta ≡ w.meta

  -- only a list is judged by its items
  abbrev pub IsListRow : InputValue S → Row S C → Type 0
  IsListRow value (r.Items inner) = is_some (list_items value) ≡ true
  IsListRow value _ = ⊤

  abbrev pub IsListStep : InputValue S → Step S C → Type 0
  IsListStep value (s.Decides row) = IsListRow value row
  IsListStep value (s.Passes inner) = ⊤

  -- a type which the value comes to has fewer modifiers
  abbrev pub IsShorter : WrappedMeta S C → Step S C → Type 0
  IsShorter w (s.Decides row) = ⊤
  IsShorter w (s.Passes inner) = length (expected_type inner).modifiers < length w.modifiers

  module _ (schema : Catalog S C) (may : Answers (InputValue S) C) (shown : InputValue S → List ℕ) where
    -- the fault of the first faulty item
    abbrev pub SaysItems : Option (List (Spanning (InputValue S) Span)) → WrappedMeta S C → Option (List ℕ) → Type 0
    SaysItems None inner fault = ⊥
    SaysItems (Some xs) inner fault = FirstFault (λ x. Judged schema may shown x.item inner) IsNone xs fault

    -- what the case says of the value's fault
    abbrev pub Says : InputValue S → Row S C → Option (List ℕ) → Type 0
    Says value r.Conforms fault = fault ≡ None
    Says value (r.Null at) fault = fault ≡ Some (null_text (printed_type (expected_type at)))
    Says value (r.Length wanted found) fault = fault ≡ Some (length_text wanted (shown value) found)
    Says value (r.Items inner) fault = SaysItems (list_items value) (expected_type inner) fault
    Says value (r.Plain meta) fault = Judged schema may shown value (plain_meta meta.now) fault

    -- a fault that the case says is the value's
    abbrev pub IsRowOf : InputValue S → WrappedMeta S C → Row S C → Option (List ℕ) → Type 0
    IsRowOf value w row fault = Says value row fault → Judged schema may shown value w fault

    -- and one against the type which the value comes to is one against the whole type
    abbrev pub IsStepOf : InputValue S → WrappedMeta S C → Step S C → Option (List ℕ) → Type 0
    IsStepOf value w (s.Decides row) fault = IsRowOf value w row fault
    IsStepOf value w (s.Passes inner) fault =
        Judged schema may shown value (expected_type inner) fault → Judged schema may shown value w fault
