-- Which checks the rows ask of a value and of the values inside, for a name with modifiers around it, outermost first.
use Rattle.std.specs.Prelude.{◌≡◌, ℕ, List, [], ◌∷◌, reverse, Contains, Option, Some, None, string_bytes}
use Rattle.language_types.specs.declared.position.Span.{Span}
use Rattle.language_types.specs.declared.position.Spanning.{Spanning}
use Rattle.language_types.specs.declared.types.TypeModifier.{TypeModifier}
use Rattle.language_types.specs.declared.types.TypeModifier.TheVariants as m
use Rattle.language_values.specs.declared.value.InputValue.{InputValue}
use Rattle.language_values.specs.declared.value.InputValue.TheVariants as variant
use Rattle.language_types.specs.Types.{TypeShape, shape}
use Rattle.language_values.specs.Values.{Entry, last_value, list_items, object_entries}
use Rattle.meta.specs.Answers.{Answers, Accepts}
use Rattle.meta.specs.Kept.{scalar_check, input_object_check}
use Rattle.meta.specs.declared.arguments.Argument.{Argument}
use Rattle.meta.specs.declared.inputs.InputObjectMetaOf.{InputObjectMetaOf}
use Rattle.meta.specs.declared.kinds.MetaTypeOf.TheVariants as k
use Rattle.meta.specs.declared.scalars.ScalarMetaOf.{ScalarMetaOf}
use Rattle.schema.specs.Catalog.{Catalog, type_in}
use Rattle.variable_values.specs.Faults.{Faults}

-- the check is asked of the last value, which is the first or stands in it
pub data Asks {S C : Type 0} (schema : Catalog S C) : InputValue S → List TypeModifier → List ℕ → C → InputValue S → Type 0 where
  -- a scalar's, of a value that isn't null
  of_scalar : (value : InputValue S) (name : List ℕ) (s : ScalarMetaOf C) → (value ≡ variant.Null → ⊥)
      → type_in name schema ≡ Some (k.Scalar s) → Asks schema value [] name (scalar_check s) value
  -- an input object's, of an object
  of_object : (value : InputValue S) (name : List ℕ) (o : InputObjectMetaOf S C) (es : List (Entry (InputValue S)))
      → object_entries value ≡ Some es → type_in name schema ≡ Some (k.InputObject o)
      → Asks schema value [] name (input_object_check o) value
  -- what is asked of the value of an input field
  at_field : (value : InputValue S) (name : List ℕ) (o : InputObjectMetaOf S C) (es : List (Entry (InputValue S)))
      (a : Argument S) (x : InputValue S) (c : C) (inner : InputValue S)
      → object_entries value ≡ Some es → type_in name schema ≡ Some (k.InputObject o) → Contains o.input_fields.items a
      → last_value (string_bytes a.name) es ≡ Some x
      → Asks schema x (reverse (shape a.arg_type).modifiers) (shape a.arg_type).name c inner → Asks schema value [] name c inner
  -- of an item of a list
  at_item : (value : InputValue S) (size : Option ℕ) (ms : List TypeModifier) (name : List ℕ)
      (xs : List (Spanning (InputValue S) Span)) (x : Spanning (InputValue S) Span) (c : C) (inner : InputValue S)
      → list_items value ≡ Some xs → Contains xs x → Asks schema x.item ms name c inner → Asks schema value (m.List size ∷ ms) name c inner
  -- of one value for a list
  alone : (value : InputValue S) (size : Option ℕ) (ms : List TypeModifier) (name : List ℕ) (c : C)
      (inner : InputValue S) → (value ≡ variant.Null → ⊥) → list_items value ≡ None → Asks schema value ms name c inner
      → Asks schema value (m.List size ∷ ms) name c inner
  -- of a value where null is refused
  non_null : (value : InputValue S) (ms : List TypeModifier) (name : List ℕ) (c : C) (inner : InputValue S)
      → Asks schema value ms name c inner → Asks schema value (m.NonNull ∷ ms) name c inner

-- where a value has no fault, each check that is asked accepts what it is asked of
abbrev pub AcceptedWhereAsked : {S C : Type 0} → Catalog S C → Answers (InputValue S) C → (S → List ℕ) → (S → Option (List ℕ)) → Type 0
AcceptedWhereAsked {S} {C} schema may text str_of =
    (value : InputValue S) (t : TypeShape) (c : C) (inner : InputValue S) → Faults schema may text str_of value t []
    → Asks schema value (reverse t.modifiers) t.name c inner → Accepts may c inner
