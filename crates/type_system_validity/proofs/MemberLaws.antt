-- The members of a type have no fault if and only if they are as they should be.
use Rattle.std.proofs.Common.{◌≡◌, ℕ, zero, suc, ◌<◌, ◌==◌, length, List, [], ◌∷◌, Bool, true, false, ◌&&◌, ap, refl, ◌∙◌, arith, string_bytes}
use Rattle.std.specs.List.{All, Any, flat_map, list_all}
use Rattle.language_types.specs.Types.{shape}
use Rattle.meta.specs.declared.arguments.Argument.{Argument}
use Rattle.meta.specs.declared.fields.Field.{Field}
use Rattle.meta.specs.declared.kinds.MetaTypeOf.{MetaTypeOf}
use Rattle.meta.specs.declared.kinds.MetaTypeOf.TheVariants as m
use Rattle.meta.specs.Arguments.{arguments_of}
use Rattle.meta.specs.Deprecation.{is_deprecated_status}
use Rattle.meta.specs.Kinds.{fields_of, input_fields_of}
use Rattle.schema.specs.Catalog.{Catalog}
use Rattle.schema_validation.specs.Names.{members_of}
use Rattle.type_system_report.specs.declared.fault.CoordinateOf.TheVariants as c
use Rattle.type_system_report.specs.declared.fault.FaultKindOf.TheVariants as k
use Rattle.type_system_report.specs.Fault.{CoordinateValue, KindValue, fault_if}
use Rattle.type_system_interfaces.specs.Arguments.{is_required}
use Rattle.type_system.specs.Introspected.{is_introspection_field}
use Rattle.type_system_interfaces.specs.Members.{name_in, values_of}
use Rattle.type_system.specs.OutputTypes.{is_input_object_named, wrong_output_type, wrong_output_types}
use Rattle.type_system.specs.RequiredMembers.{deprecated_argument, deprecated_arguments, deprecated_input_field, deprecated_members}
use Rattle.type_system.specs.ReservedValues.{is_reserved_value, reserved_value, reserved_values}
use Rattle.type_system.specs.SomeFields.{are_introspections, missing_fields}
use Rattle.type_system.specs.SomeMembers.{missing_members}
use Rattle.type_system.specs.SomeValues.{missing_values}
use Rattle.type_system.specs.UniqueMembers.{repeated_members}
use Rattle.type_system_validity.specs.Deprecation.{DeprecatesOptionalMembers, IsCurrentIfRequired}
use Rattle.type_system_validity.specs.Members.{DefinesField, DefinesMember, DefinesValue, HasDistinctMembers, HasEnumNames, HasOutputTypes, HasOwnField}
use Rattle.type_system_validity.proofs.Iff.{NoneIff, iff_both, iff_distinct, iff_each, iff_if, iff_if_both, iff_nothing}

-- an empty list is a fault
pub iff_some : {X : Type 0} (xs : List X) (at : CoordinateValue) (kind : KindValue) → NoneIff (fault_if (length xs == 0) at kind) (0 < length xs)
iff_some [] at kind = (λ e. absurd cc, λ h. absurd (omega (arith, h)))
iff_some (x ∷ xs) at kind = (λ e. omega arith, λ h. (iff_if (length (x ∷ xs) == 0) at kind).1 (grind arith))

-- not all pass if and only if some does not
module _ {X : Type 0} (p : X → Bool) where
  head_fails : (x : X) (xs : List X) (b : Bool) → p x ≡ b → (b && list_all p xs) ≡ false → (list_all p xs ≡ false → Any (λ y. p y ≡ false) xs) → Any (λ y. p y ≡ false) (x ∷ xs)
  head_fails x xs false is e rest = (0, x, omega arith, refl, is)
  head_fails x xs true is e rest = let (i, y, lt, at, fails) = rest e in (suc i, y, omega (arith, lt), at, fails)

  some_fails : (xs : List X) → list_all p xs ≡ false → Any (λ x. p x ≡ false) xs
  some_fails [] e = absurd cc
  some_fails (x ∷ xs) e = head_fails x xs (p x) refl e (some_fails xs)

  and_false : (b c : Bool) → c ≡ false → (b && c) ≡ false
  and_false false c e = refl
  and_false true c e = e

  not_all : (xs : List X) → Any (λ x. p x ≡ false) xs → list_all p xs ≡ false
  not_all [] (i, y, lt, at, fails) = absurd (omega (arith, lt))
  not_all (x ∷ xs) (zero, y, lt, at, fails) = ap (λ b. b && list_all p xs) (ap p at ∙ fails)
  not_all (x ∷ xs) (suc i, y, lt, at, fails) = and_false (p x) (list_all p xs) (not_all xs (i, y, omega (arith, lt), at, fails))

module _ {S C : Type 0} (schema : Catalog S C) where
  own_field : (of : List ℕ) (fields : List (Field S)) (at : CoordinateValue) (kind : KindValue) → NoneIff (fault_if (are_introspections schema of fields) at kind) (HasOwnField schema of fields)
  own_field of fields at kind =
      let test : Field S → Bool = λ f. is_introspection_field schema of (string_bytes f.name) in
      let plain = iff_if (are_introspections schema of fields) at kind in
      (λ e. some_fails test fields (plain.0 e), λ h. plain.1 (not_all test fields h))

  pub iff_field_defined : (t : MetaTypeOf S C) → NoneIff (missing_fields schema t) (DefinesField schema t)
  iff_field_defined (m.Object x) = own_field (string_bytes x.name) x.fields.items (c.Type (string_bytes x.name)) k.NoFields
  iff_field_defined (m.Interface x) = own_field (string_bytes x.name) x.fields.items (c.Type (string_bytes x.name)) k.NoFields
  iff_field_defined (m.InputObject x) = iff_some x.input_fields.items (c.Type (string_bytes x.name)) k.NoFields
  iff_field_defined _ = iff_nothing

  pub iff_output_types : (t : MetaTypeOf S C) → NoneIff (wrong_output_types schema t) (HasOutputTypes schema t)
  iff_output_types t =
      iff_each (wrong_output_type schema (name_in t)) (λ f. is_input_object_named schema (shape f.field_type).name ≡ false)
      (λ f. iff_if (is_input_object_named schema (shape f.field_type).name) (c.Field (name_in t) (string_bytes f.name)) (k.NotOutputType (shape f.field_type)))
      (fields_of t)

-- a required member that is deprecated
pub iff_current : {S : Type 0} (a : Argument S) (at : CoordinateValue) (kind : KindValue) → NoneIff (fault_if (is_required a && is_deprecated_status a.deprecation_status) at kind) (IsCurrentIfRequired a)
iff_current a at kind = iff_if_both (is_required a) (is_deprecated_status a.deprecation_status) at kind

iff_field_current : {S : Type 0} (of : List ℕ) (f : Field S) → NoneIff (deprecated_arguments of f) (All IsCurrentIfRequired (arguments_of f))
iff_field_current of f =
    iff_each (deprecated_argument of (string_bytes f.name)) IsCurrentIfRequired (λ a. iff_current a (c.Argument of (string_bytes f.name) (string_bytes a.name)) k.DeprecatedArgument) (arguments_of f)

module _ {S C : Type 0} where
  pub iff_value_defined : (t : MetaTypeOf S C) → NoneIff (missing_values t) (DefinesValue t)
  iff_value_defined (m.Enum x) = iff_some x.values.items (c.Type (string_bytes x.name)) k.NoValues
  iff_value_defined _ = iff_nothing

  pub iff_member_defined : (t : MetaTypeOf S C) → NoneIff (missing_members t) (DefinesMember t)
  iff_member_defined (m.Union x) = iff_some x.of_type_names.items (c.Type (string_bytes x.name)) k.NoMembers
  iff_member_defined _ = iff_nothing

  pub iff_distinct_members : (t : MetaTypeOf S C) → NoneIff (repeated_members t) (HasDistinctMembers t)
  iff_distinct_members t = iff_distinct (c.Type (name_in t)) k.RepeatedMember (members_of t)

  pub iff_enum_names : (t : MetaTypeOf S C) → NoneIff (reserved_values t) (HasEnumNames t)
  iff_enum_names t =
      iff_each (reserved_value (name_in t)) (λ v. is_reserved_value (string_bytes v.name) ≡ false)
      (λ v. iff_if (is_reserved_value (string_bytes v.name)) (c.EnumValue (name_in t) (string_bytes v.name)) k.ReservedValue)
      (values_of t)

  pub iff_deprecation : (t : MetaTypeOf S C) → NoneIff (deprecated_members t) (DeprecatesOptionalMembers t)
  iff_deprecation t =
      let of = name_in t in
      let all = iff_both (flat_map (deprecated_arguments of) (fields_of t)) (flat_map (deprecated_input_field of) (input_fields_of t)) _ _
      (iff_each (deprecated_arguments of) (λ f. All IsCurrentIfRequired (arguments_of f)) (iff_field_current of) (fields_of t))
      (iff_each (deprecated_input_field of) IsCurrentIfRequired (λ a. iff_current a (c.Field of (string_bytes a.name)) k.DeprecatedInputField) (input_fields_of t)) in
      (λ e. let h = all.0 e in record { arguments = h.0; input_fields = h.1 }, λ h. all.1 (h.arguments, h.input_fields))
