-- Which values may stand where one of a type is expected (section 6.1.2).
use Rattle.std.specs.Prelude.{◌≡◌, ℕ, List, Contains, false, length, Option, Some, None, String, map, string_bytes}
use Rattle.std.specs.BTreeMap.{get_by_text}
use Rattle.std.specs.declared.alloc.Global.{Global}
use Rattle.language_types.specs.declared.position.Span.{Span}
use Rattle.language_types.specs.declared.position.Spanning.{Spanning}
use Rattle.language.specs.declared.tree.Operation.{Operation}
use Rattle.language_types.specs.declared.types.TypeModifier.TheVariants as m
use Rattle.language_values.specs.declared.value.InputValue.{InputValue}
use Rattle.language_values.specs.declared.value.InputValue.TheVariants as variant
use Rattle.language_types.specs.Types.{IsNonNull, TypeShape, list_of, nullable_named, shape, wrapped_by}
use Rattle.language_values.specs.Values.{Entry, last_value, list_items, object_entries}
use Rattle.meta.specs.Answers.{Answers, Accepts}
use Rattle.meta.specs.Kept.{scalar_check, input_object_check}
use Rattle.meta.specs.declared.arguments.Argument.{Argument}
use Rattle.meta.specs.declared.enums.EnumMetaOf.{EnumMetaOf}
use Rattle.meta.specs.declared.inputs.InputObjectMetaOf.{InputObjectMetaOf}
use Rattle.meta.specs.declared.kinds.MetaTypeOf.TheVariants as k
use Rattle.meta.specs.declared.scalars.ScalarMetaOf.{ScalarMetaOf}
use Rattle.schema.specs.Catalog.{Catalog, type_in}
use Rattle.events.specs.Node.{VariableEntry}
use Rattle.variable_values.specs.Dialects.{is_needed, stands_in, takes_any_value}
use Rattle.variable_values.specs.Inputs.{definitions_of}
use Rattle.variable_values.specs.Keys.{field_names, keys_of}
use Rattle.variable_values.specs.Messages.{Values}

-- the length is the one that a type of lists asks for, if it asks for one
abbrev pub IsLength : ℕ → Option ℕ → Type 0
IsLength found size = (n : ℕ) → size ≡ Some n → found ≡ n

-- a list has that length
abbrev pub HasLength : {A : Type 0} → List A → Option ℕ → Type 0
HasLength xs size = IsLength (length xs) size

-- the names of an enum's values
abbrev pub value_names : {C : Type 0} → EnumMetaOf C → List (List ℕ)
value_names e = map (λ n. string_bytes n.name) e.values.items

-- a value is neither a list nor an object
abbrev pub IsPlain : {S : Type 0} → InputValue S → Type 0
IsPlain value = (list_items value ≡ None) × (object_entries value ≡ None)

-- Some scalars are strings.
module _ {S C : Type 0} (schema : Catalog S C) (may : Answers (InputValue S) C) (str_of : S → Option (List ℕ)) where
  -- a value, or none, may stand where one of the type is expected
  pub data Conforms : Option (InputValue S) → TypeShape → Type 0 where
    -- no value, and null, for each type that isn't non-null
    nothing : (t : TypeShape) → ¬ (IsNonNull t) → Conforms None t
    null : (t : TypeShape) → ¬ (IsNonNull t) → Conforms (Some variant.Null) t
    -- any other value for a non-null type, where it conforms to the type inside
    non_null : (value : InputValue S) (t : TypeShape) → ¬ (value ≡ variant.Null) → Conforms (Some value) t
        → Conforms (Some value) (wrapped_by m.NonNull t)
    -- a list of the right length, where each item conforms to the type of items
    list : (value : InputValue S) (size : Option ℕ) (t : TypeShape) (xs : List (Spanning (InputValue S) Span))
        → list_items value ≡ Some xs → HasLength xs size
        → ((x : Spanning (InputValue S) Span) → Contains xs x → Conforms (Some x.item) t)
        → Conforms (Some value) (list_of size t)
    -- one value for a list, where one is the length that is asked for, if any is, and the value conforms to the type of
    -- items
    single : (value : InputValue S) (size : Option ℕ) (t : TypeShape)
        → ¬ (value ≡ variant.Null) → list_items value ≡ None → IsLength 1 size → Conforms (Some value) t
        → Conforms (Some value) (list_of size t)
    -- what the check of a scalar accepts, but for lists and objects, unless the scalar takes any value
    scalar : (value : InputValue S) (name : List ℕ) (s : ScalarMetaOf C) → type_in name schema ≡ Some (k.Scalar s)
        → (takes_any_value schema s ≡ false → IsPlain value) → Accepts may (scalar_check s) value
        → Conforms (Some value) (nullable_named name)
    -- a value of an enum, and a string of its name
    enum_value : (text : String Global) (name : List ℕ) (e : EnumMetaOf C) → type_in name schema ≡ Some (k.Enum e)
        → Contains (value_names e) (string_bytes text) → Conforms (Some (variant.Enum text)) (nullable_named name)
    enum_string : (s : S) (text name : List ℕ) (e : EnumMetaOf C) → type_in name schema ≡ Some (k.Enum e)
        → str_of s ≡ Some text → Contains (value_names e) text → Conforms (Some (variant.Scalar s)) (nullable_named name)
    -- an object for an input object, where each key is the name of a field, no field that has to be given is left out,
    -- the last value of each field conforms to the field's type, and the check accepts the object
    input_object : (value : InputValue S) (name : List ℕ) (o : InputObjectMetaOf S C) (es : List (Entry (InputValue S)))
        → type_in name schema ≡ Some (k.InputObject o) → object_entries value ≡ Some es
        → ((key : List ℕ) → Contains (keys_of es) key → Contains (field_names o.input_fields.items) key)
        → ((a : Argument S) → Contains o.input_fields.items a → last_value (string_bytes a.name) es ≡ None → is_needed schema a ≡ false)
        → ((a : Argument S) (x : InputValue S) → Contains o.input_fields.items a
        → last_value (string_bytes a.name) es ≡ Some x → Conforms (Some x) (shape a.arg_type))
        → Accepts may (input_object_check o) value → Conforms (Some value) (nullable_named name)

  -- the value of each variable of the operation conforms to the variable's type, unless a default stands in for it
  abbrev pub VariablesConform : Values S → Operation S → Type 0
  VariablesConform values o =
      (d : VariableEntry S) → Contains (definitions_of o) d
      → stands_in schema d.1 (get_by_text values d.0.item.now) ≡ false
      → Conforms (get_by_text values d.0.item.now) (shape d.1.var_type.item)
