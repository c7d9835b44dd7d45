-- Members that types have, and how they are (sections 3.6 to 3.10).
use Rattle.std.specs.Prelude.{◌≡◌, ⊤, ℕ, ◌<◌, List, length, true, false, Some, string_bytes}
use Rattle.std.specs.List.{All, Any}
use Rattle.language_types.specs.Types.{shape}
use Rattle.meta.specs.declared.fields.Field.{Field}
use Rattle.meta.specs.declared.kinds.MetaTypeOf.{MetaTypeOf}
use Rattle.meta.specs.declared.kinds.MetaTypeOf.TheVariants as m
use Rattle.meta.specs.Kinds.{fields_of}
use Rattle.schema.specs.Catalog.{Catalog}
use Rattle.schema_validation.specs.Named.{are_distinct}
use Rattle.schema_validation.specs.Names.{members_of}
use Rattle.type_system.specs.Introspected.{is_introspection_field}
use Rattle.type_system_interfaces.specs.Members.{values_of}
use Rattle.type_system.specs.OutputTypes.{is_input_object_named}
use Rattle.type_system.specs.ReservedValues.{is_reserved_value}

-- no name of the list stands in it twice
abbrev pub AreDistinct : List (List ℕ) → Type 0
AreDistinct names = are_distinct (λ n. Some n) names ≡ true

module _ {S C : Type 0} (schema : Catalog S C) where
  -- one of the fields of the type of this name is not of introspection
  abbrev pub HasOwnField : List ℕ → List (Field S) → Type 0
  HasOwnField of fields = Any (λ f. is_introspection_field schema of (string_bytes f.name) ≡ false) fields

  -- an object, an interface or an input object defines a field
  abbrev pub DefinesField : MetaTypeOf S C → Type 0
  DefinesField (m.Object x) = HasOwnField (string_bytes x.name) x.fields.items
  DefinesField (m.Interface x) = HasOwnField (string_bytes x.name) x.fields.items
  DefinesField (m.InputObject x) = 0 < length x.input_fields.items
  DefinesField _ = ⊤

  -- the type of each field is an output type, which each type is but an input object
  abbrev pub HasOutputTypes : MetaTypeOf S C → Type 0
  HasOutputTypes t = All (λ f. is_input_object_named schema (shape f.field_type).name ≡ false) (fields_of t)

module _ {S C : Type 0} where
  -- an enum defines a value
  abbrev pub DefinesValue : MetaTypeOf S C → Type 0
  DefinesValue (m.Enum x) = 0 < length x.values.items
  DefinesValue _ = ⊤

  -- no value of an enum is named `true`, `false` or `null`
  abbrev pub HasEnumNames : MetaTypeOf S C → Type 0
  HasEnumNames t = All (λ v. is_reserved_value (string_bytes v.name) ≡ false) (values_of t)

  -- a union defines a member
  abbrev pub DefinesMember : MetaTypeOf S C → Type 0
  DefinesMember (m.Union x) = 0 < length x.of_type_names.items
  DefinesMember _ = ⊤

  -- no member stands in a union twice
  abbrev pub HasDistinctMembers : MetaTypeOf S C → Type 0
  HasDistinctMembers t = AreDistinct (members_of t)
