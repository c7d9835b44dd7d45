-- Which values conform to a type (sections 3.9 to 3.12, 5.6.1 and 5.6.4).
use Rattle.std.specs.Prelude.{◌≡◌, ℕ, List, [], ◌∷◌, length, reverse, Bool, true, false, Option, Some, String, Vec}
use Rattle.std.specs.Prelude.{is_some, nat_eq, option_and_then, string_bytes}
use Rattle.std.specs.declared.alloc.Global.{Global}
use Rattle.std.specs.List.{Contains}
use Rattle.std.specs.Option.{option_map_or}
use Rattle.language_types.specs.Position.{Placed}
use Rattle.language_types.specs.Types.{TypeShape, shape}
use Rattle.language_values.specs.Values.{Entry}
use Rattle.language_types.specs.declared.types.TypeModifier.{TypeModifier}
use Rattle.language_types.specs.declared.types.TypeModifier.TheVariants as m
use Rattle.language_values.specs.declared.value.InputValue.{InputValue}
use Rattle.language_values.specs.declared.value.InputValue.TheVariants as v
use Rattle.meta.specs.Answers.{Answers, Accepts}
use Rattle.meta.specs.Kinds.{check_of_meta, input_field_named, input_fields_of}
use Rattle.meta.specs.declared.arguments.Argument.{Argument}
use Rattle.meta.specs.declared.kinds.MetaTypeOf.{MetaTypeOf}
use Rattle.schema.specs.Catalog.{Catalog, type_in}
use Rattle.schema.specs.Possible.{is_among}
use Rattle.literals.specs.AnyLiteral.{takes_any}
use Rattle.literals.specs.Judged.{is_enum_meta, is_input_object_meta, key_of, keys_of}
use Rattle.literals.specs.Missing.{is_required}

-- a list of so many items is of the size that is expected, if one is
abbrev pub is_of_size : Option ℕ → ℕ → Bool
is_of_size size found = option_map_or (λ wanted. nat_eq wanted found) size true

-- the type of an input field in the schema, by its innermost name
abbrev pub field_type : {S C : Type 0} → Catalog S C → Argument S → Option (MetaTypeOf S C)
field_type schema a = type_in (shape a.arg_type).name schema

module _ {S C : Type 0} (schema : Catalog S C) (may : Answers (InputValue S) C) where
  -- A value conforms to a type: to its modifiers, the outermost first, round a named type.
  pub data Conforms : InputValue S → List TypeModifier → MetaTypeOf S C → Type 0 where
    -- a variable stands for a value that is checked elsewhere
    variable : (name : String Global) {ms : List TypeModifier} {meta : MetaTypeOf S C} → Conforms (v.Variable name) ms meta
    -- null, where the type has no outer non-null
    null_name : {meta : MetaTypeOf S C} → Conforms v.Null [] meta
    null_list : {size : Option ℕ} {ms : List TypeModifier} {meta : MetaTypeOf S C} → Conforms v.Null (m.List size ∷ ms) meta
    -- anything else, where it has one
    non_null : {value : InputValue S} {ms : List TypeModifier} {meta : MetaTypeOf S C}
        → (value ≡ v.Null → ⊥) → Conforms value ms meta → Conforms value (m.NonNull ∷ ms) meta
    -- a list, each of whose items conforms
    list : (xs : Vec (Placed (InputValue S)) Global) {size : Option ℕ} {ms : List TypeModifier} {meta : MetaTypeOf S C}
        → is_of_size size (length xs.items) ≡ true → ((x : Placed (InputValue S)) → Contains xs.items x → Conforms x.item ms meta)
        → Conforms (v.List xs) (m.List size ∷ ms) meta
    -- a value that is no list stands for the list of it alone
    alone : {value : InputValue S} {size : Option ℕ} {ms : List TypeModifier} {meta : MetaTypeOf S C}
        → ((xs : Vec (Placed (InputValue S)) Global) → value ≡ v.List xs → ⊥) → is_of_size size 1 ≡ true
        → Conforms value ms meta → Conforms value (m.List size ∷ ms) meta
    -- a scalar that the check of the type accepts; no scalar is an enum value
    scalar : (s : S) {c : C} {meta : MetaTypeOf S C}
        → is_enum_meta meta ≡ false → check_of_meta meta ≡ Some c → Accepts may c (v.Scalar s) → Conforms (v.Scalar s) [] meta
    -- an enum value that the check of the type accepts
    enum_value : (name : String Global) {c : C} {meta : MetaTypeOf S C}
        → check_of_meta meta ≡ Some c → Accepts may c (v.Enum name) → Conforms (v.Enum name) [] meta
    -- any literal that the check of the type accepts, where the type takes any
    any_literal : (value : InputValue S) {c : C} {meta : MetaTypeOf S C}
        → takes_any schema meta ≡ true → check_of_meta meta ≡ Some c → Accepts may c value → Conforms value [] meta
    -- an object: each key is that of an input field, each value conforms to the field's type, and no required field is
    -- left out
    object : (es : Vec (Entry (InputValue S)) Global) {meta : MetaTypeOf S C} → is_input_object_meta meta ≡ true
        → ((e : Entry (InputValue S)) → Contains es.items e
        → is_some (option_and_then (field_type schema) (input_field_named (key_of e) meta)) ≡ true)
        → ((e : Entry (InputValue S)) (a : Argument S) (t : MetaTypeOf S C) → Contains es.items e
        → input_field_named (key_of e) meta ≡ Some a
        → field_type schema a ≡ Some t → Conforms e.1.item (reverse (shape a.arg_type).modifiers) t)
        → ((a : Argument S) → Contains (input_fields_of meta) a → is_required a ≡ true
        → is_among (keys_of es.items) (string_bytes a.name) ≡ true)
        → Conforms (v.Object es) [] meta

  -- it conforms to a type as it is written, if the schema has a type of its name
  abbrev pub ConformsTo : TypeShape → InputValue S → Type 0
  ConformsTo t value = (meta : MetaTypeOf S C) → type_in t.name schema ≡ Some meta → Conforms value (reverse t.modifiers) meta
