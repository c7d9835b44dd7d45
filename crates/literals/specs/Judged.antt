-- A value against a type, case by case: `None` if it conforms, else the text of its first fault (sections 5.6.1, 3.10
-- and 3.11).
use Rattle.std.specs.Prelude.{◌≡◌, ℕ, List, [], ◌∷◌, length, reverse, map, Bool, true, false, Option, Some, None}
use Rattle.std.specs.Prelude.{option_map, unwrap_or, string_bytes, nat_eq, if◌then◌else◌}
use Rattle.language_types.specs.declared.types.TypeModifier.{TypeModifier}
use Rattle.language_types.specs.declared.types.TypeModifier.TheVariants as m
use Rattle.language_values.specs.declared.value.InputValue.{InputValue}
use Rattle.language_values.specs.declared.value.InputValue.TheOpen as v
use Rattle.language_values.specs.declared.value.InputValue.TheFolds.{rec-InputValue}
use Rattle.language_types.specs.Types.{TypeShape, shape, printed}
use Rattle.language_values.specs.Values.{Entry}
use Rattle.meta.specs.declared.arguments.Argument.{Argument}
use Rattle.meta.specs.declared.kinds.MetaTypeOf.{MetaTypeOf}
use Rattle.meta.specs.declared.kinds.MetaTypeOf.TheVariants as k
use Rattle.meta.specs.Answers.{Answers, Accepts, RefusesWith}
use Rattle.meta.specs.Kinds.{name_of_meta, check_of_meta, input_fields_of, input_field_named}
use Rattle.schema.specs.Catalog.{Catalog, type_in}
use Rattle.schema.specs.Wrapped.{WrappedMeta, wrapped_shape}
use Rattle.literals.specs.AnyLiteral.{takes_any}
use Rattle.literals.specs.FirstFault.{FirstFault}
use Rattle.literals.specs.Missing.{missing, missing_fault}
use Rattle.literals.specs.Texts.{null_text, enum_text, value_text, no_check_text, list_text, no_object_text, field_text}
use Rattle.literals.specs.Texts.{unknown_text, length_text}

-- whether this is the fault of a value against a type; `None` means that it conforms
abbrev pub Judge : Type 0 → Type 0 → Type 1
Judge S C = InputValue S → WrappedMeta S C → Option (List ℕ) → Type 0

-- there is no fault
abbrev pub IsNone : Option (List ℕ) → Type 0
IsNone fault = fault ≡ None

-- the fault has this text
abbrev pub Is : List ℕ → Option (List ℕ) → Type 0
Is said fault = fault ≡ Some said

-- an enum
abbrev pub is_enum_meta : {S C : Type 0} → MetaTypeOf S C → Bool
is_enum_meta (k.Enum x) = true
is_enum_meta _ = false

-- an input object
abbrev pub is_input_object_meta : {S C : Type 0} → MetaTypeOf S C → Bool
is_input_object_meta (k.InputObject x) = true
is_input_object_meta _ = false

-- the key of an entry
abbrev pub key_of : {A : Type 0} → Entry A → List ℕ
key_of e = string_bytes e.0.item

-- the keys of an object
abbrev pub keys_of : {A : Type 0} → List (Entry A) → List (List ℕ)
keys_of es = map key_of es

-- the expected length of a list, if the actual one differs
abbrev pub other_length : Option ℕ → ℕ → Option ℕ
other_length None found = None
other_length (Some wanted) found = if nat_eq wanted found then None else Some wanted

module _ {S C : Type 0} where
  -- a type as it is printed, and the name of metadata
  abbrev pub printed_type : WrappedMeta S C → List ℕ
  printed_type w = printed (wrapped_shape w)

  abbrev pub printed_name : MetaTypeOf S C → List ℕ
  printed_name meta = unwrap_or (name_of_meta meta) []

  -- metadata with modifiers, outermost first
  abbrev pub within : List TypeModifier → MetaTypeOf S C → WrappedMeta S C
  within ms meta = record { meta = meta; modifiers = reverse ms }

  -- the type of a schema that a written type names
  abbrev pub IsTypeOf : Catalog S C → TypeShape → WrappedMeta S C → Type 0
  IsTypeOf schema t w = (type_in t.name schema ≡ Some w.meta) × (w.modifiers ≡ t.modifiers)

  -- the same, where the schema has a type of the name
  abbrev pub written_type : Catalog S C → TypeShape → Option (WrappedMeta S C)
  written_type schema t = option_map (λ meta. record { meta = meta; modifiers = t.modifiers }) (type_in t.name schema)

  -- what an object with these keys lacks
  abbrev pub LacksFields : MetaTypeOf S C → List (List ℕ) → Option (List ℕ) → Type 0
  LacksFields meta keys fault = fault ≡ missing_fault (printed_name meta) (missing keys (input_fields_of meta))

  -- Values without values inside: by the answers that a check may give, and the printed form of a value.
  module _ (may : Answers (InputValue S) C) (shown : InputValue S → List ℕ) where
    -- the fault of a value by the check of a type; a type without one accepts no value
    abbrev pub checked : Option C → InputValue S → MetaTypeOf S C → Option (List ℕ) → Type 0
    checked None value meta fault = Is (no_check_text (printed_name meta)) fault
    checked (Some c) value meta None = Accepts may c value
    checked (Some c) value meta (Some said) =
        (said ≡ value_text (shown value) (printed_name meta)) × (m : List ℕ) × RefusesWith may c value m

    -- a scalar is no enum value
    abbrev pub unless_enum : Bool → InputValue S → MetaTypeOf S C → Option (List ℕ) → Type 0
    unless_enum true value meta fault = Is (enum_text (shown value) (printed_name meta)) fault
    unless_enum false value meta fault = checked (check_of_meta meta) value meta fault

    -- a scalar that takes any literal judges a list or an object by its check
    abbrev pub unless_any : Bool → InputValue S → MetaTypeOf S C → Option (List ℕ) → Type 0 → Type 0
    unless_any true value meta fault Otherwise = checked (check_of_meta meta) value meta fault
    unless_any false value meta fault Otherwise = Otherwise

    -- a list of another length than expected, or else the fault of its items
    abbrev pub sized : Option ℕ → ℕ → InputValue S → Option (List ℕ) → Type 0 → Type 0
    sized None found value fault Otherwise = Otherwise
    sized (Some wanted) found value fault Otherwise = Is (length_text wanted (shown value) found) fault

  module _ (schema : Catalog S C) (may : Answers (InputValue S) C) (shown : InputValue S → List ℕ) where
    -- The values inside, each with what it is and its faults.
    module _ {X : Type 0} (value_of : X → InputValue S) (judge : X → Judge S C) where
      -- a value inside another, against its type
      abbrev pub inside : WrappedMeta S C → X → Option (List ℕ) → Type 0
      inside w x fault = judge x (value_of x) w fault

      -- a value under a key, against the first input field of the key, if there is one
      abbrev pub keyed : MetaTypeOf S C → List ℕ → Option (Argument S) → X → Option (List ℕ) → Type 0
      keyed meta key None x fault = Is (unknown_text (printed_name meta) key) fault
      keyed meta key (Some a) x fault =
          (w : WrappedMeta S C) × IsTypeOf schema (shape a.arg_type) w
          × (m : Option (List ℕ)) × inside w x m × (fault ≡ option_map (field_text (printed_name meta) key) m)

      -- an entry of an object, against the input field of its key
      abbrev pub entry : MetaTypeOf S C → Entry X → Option (List ℕ) → Type 0
      entry meta e fault = keyed meta (key_of e) (input_field_named (key_of e) meta) e.1.item fault

      -- the first faulty entry, and where none is faulty the fields that are missing
      abbrev pub object : Bool → MetaTypeOf S C → List (Entry X) → Option (List ℕ) → Type 0
      object false meta es fault = Is (no_object_text (printed_name meta)) fault
      object true meta es fault = FirstFault (entry meta) (LacksFields meta (keys_of es)) es fault

      -- a value against a plain name
      abbrev pub against_name : v.InputValue-F S X → InputValue S → MetaTypeOf S C → Option (List ℕ) → Type 0
      against_name v.Null value meta fault = IsNone fault
      against_name (v.Variable n) value meta fault = IsNone fault
      against_name (v.Scalar s) value meta fault = unless_enum may shown (is_enum_meta meta) value meta fault
      against_name (v.Enum n) value meta fault = checked may shown (check_of_meta meta) value meta fault
      against_name (v.List xs) value meta fault = unless_any may shown (takes_any schema meta) value meta fault (Is list_text fault)
      against_name (v.Object es) value meta fault =
          unless_any may shown (takes_any schema meta) value meta fault
          (object (is_input_object_meta meta) meta es.items fault)

      -- a value against a name with modifiers, outermost first
      abbrev pub against : v.InputValue-F S X → InputValue S → List TypeModifier → MetaTypeOf S C → Option (List ℕ) → Type 0
      against x value [] meta fault = against_name x value meta fault
      against v.Null value (m.NonNull ∷ ms) meta fault = Is (null_text (printed_type (within (m.NonNull ∷ ms) meta))) fault
      against x value (m.NonNull ∷ ms) meta fault = against x value ms meta fault
      against v.Null value (m.List size ∷ ms) meta fault = IsNone fault
      against (v.Variable n) value (m.List size ∷ ms) meta fault = IsNone fault
      against (v.List xs) value (m.List size ∷ ms) meta fault =
          sized may shown (other_length size (length xs.items)) (length xs.items) value fault
          (FirstFault (λ x. inside (within ms meta) x.item) IsNone xs.items fault)
      against x value (m.List size ∷ ms) meta fault = sized may shown (other_length size 1) 1 value fault (against x value ms meta fault)

    -- one level of a value against a type
    abbrev pub judge_step : (X : Type 0) → (X → InputValue S) → (X → Judge S C) → v.InputValue-F S X → Judge S C
    judge_step X value_of judge x value w fault = against value_of judge x value (reverse w.modifiers) w.meta fault

    -- a value against a type
    abbrev pub judge_of : InputValue S → Judge S C
    judge_of = rec-InputValue S (Judge S C) judge_step

    -- the fault of a value against a type, `None` if it conforms
    abbrev pub Judged : Judge S C
    Judged value w fault = judge_of value value w fault

    -- that of a value under a key of an input object, of an entry, and of an object
    abbrev pub KeyedFault : MetaTypeOf S C → List ℕ → InputValue S → Option (List ℕ) → Type 0
    KeyedFault meta key value fault = keyed (λ y. y) judge_of meta key (input_field_named key meta) value fault

    abbrev pub EntryFault : MetaTypeOf S C → Entry (InputValue S) → Option (List ℕ) → Type 0
    EntryFault meta e fault = KeyedFault meta (key_of e) e.1.item fault

    abbrev pub ObjectFault : MetaTypeOf S C → List (Entry (InputValue S)) → Option (List ℕ) → Type 0
    ObjectFault meta es fault = object (λ y. y) judge_of (is_input_object_meta meta) meta es fault

    -- that of a value against a type, where there is one
    abbrev pub FaultAt : InputValue S → Option (WrappedMeta S C) → Option (List ℕ) → Type 0
    FaultAt value None fault = IsNone fault
    FaultAt value (Some w) fault = Judged value w fault

    -- that of a value against a reference to a type, `None` if the schema has no type of its name
    abbrev pub WrittenFault : InputValue S → TypeShape → Option (List ℕ) → Type 0
    WrittenFault value t fault = FaultAt value (written_type schema t) fault
