-- No name is reserved if and only if each is as it should be.
use Rattle.std.proofs.Common.{List, [], ◌++◌, ℕ, string_bytes}
use Rattle.std.specs.Prelude.{if◌then◌else◌}
use Rattle.std.specs.List.{flat_map}
use Rattle.meta.specs.declared.fields.Field.{Field}
use Rattle.meta.specs.declared.kinds.MetaTypeOf.{MetaTypeOf}
use Rattle.meta.specs.Arguments.{arguments_of}
use Rattle.meta.specs.Kinds.{fields_of, input_fields_of}
use Rattle.schema.specs.Catalog.{Catalog}
use Rattle.schema_validation.specs.declared.directives.DirectiveType.{DirectiveType}
use Rattle.type_system_report.specs.declared.fault.CoordinateOf.TheVariants as c
use Rattle.type_system_report.specs.declared.fault.FaultKindOf.TheVariants as k
use Rattle.type_system_report.specs.Fault.{CoordinateValue, last_name}
use Rattle.type_system.specs.Introspected.{is_introspection_field, is_introspection_type, is_reserved}
use Rattle.type_system_interfaces.specs.Members.{name_in, values_of}
use Rattle.type_system.specs.ReservedNames.{reserved_argument, reserved_directive, reserved_directive_argument, reserved_field, reserved_input_field, reserved_name, reserved_names, reserved_type, reserved_value}
use Rattle.type_system_validity.specs.Names.{HasUnreservedDirective, HasUnreservedField, HasUnreservedNames, IsUnreserved}
use Rattle.type_system_validity.proofs.Iff.{NoneIff, iff_both, iff_each, iff_if, iff_unless_skipped}

iff_name : (at : CoordinateValue) → NoneIff (reserved_name at) (IsUnreserved (last_name at))
iff_name at = iff_if (is_reserved (last_name at)) at k.ReservedName

module _ {S C : Type 0} (schema : Catalog S C) where
  iff_field : (of : List ℕ) (f : Field S) → NoneIff (reserved_field schema of f) (HasUnreservedField schema of f)
  iff_field of f =
      let name = string_bytes f.name in
      let own = reserved_name (c.Field of name) in
      let all = iff_both (if is_introspection_field schema of name then [] else own) (flat_map (reserved_argument of name) (arguments_of f)) _ _
      (iff_unless_skipped (is_introspection_field schema of name) own (IsUnreserved name) (iff_name (c.Field of name)))
      (iff_each (reserved_argument of name) (λ a. IsUnreserved (string_bytes a.name)) (λ a. iff_name (c.Argument of name (string_bytes a.name))) (arguments_of f)) in
      (λ e. let h = all.0 e in record { name = h.0; arguments = h.1 }, λ h. all.1 (h.name, h.arguments))

  pub iff_names : (t : MetaTypeOf S C) → NoneIff (reserved_names schema t) (HasUnreservedNames schema t)
  iff_names t =
      let of = name_in t in
      let fields = flat_map (reserved_field schema of) (fields_of t) in
      let input_fields = flat_map (reserved_input_field of) (input_fields_of t) in
      let values = flat_map (reserved_value of) (values_of t) in
      let own = iff_unless_skipped (is_introspection_type of) (reserved_name (c.Type of)) (IsUnreserved of) (iff_name (c.Type of)) in
      let each_field = iff_each (reserved_field schema of) (HasUnreservedField schema of) (iff_field of) (fields_of t) in
      let each_input = iff_each (reserved_input_field of) (λ a. IsUnreserved (string_bytes a.name)) (λ a. iff_name (c.Field of (string_bytes a.name))) (input_fields_of t) in
      let each_value = iff_each (reserved_value of) (λ v. IsUnreserved (string_bytes v.name)) (λ v. iff_name (c.EnumValue of (string_bytes v.name))) (values_of t) in
      let two = iff_both (reserved_type schema of) fields _ _ own each_field in
      let three = iff_both (reserved_type schema of ++ fields) input_fields _ _ two each_input in
      let all = iff_both ((reserved_type schema of ++ fields) ++ input_fields) values _ _ three each_value in
      (λ e. let h = all.0 e in record { name = h.0.0.0; fields = h.0.0.1; input_fields = h.0.1; values = h.1 }, λ h. all.1 (((h.name, h.fields), h.input_fields), h.values))

pub iff_directive_names : {S : Type 0} (d : DirectiveType S) → NoneIff (reserved_directive d) (HasUnreservedDirective d)
iff_directive_names d =
    let of = string_bytes d.name in
    let all = iff_both (reserved_name (c.Directive of)) (flat_map (reserved_directive_argument of) d.arguments.items) _ _
    (iff_name (c.Directive of))
    (iff_each (reserved_directive_argument of) (λ a. IsUnreserved (string_bytes a.name)) (λ a. iff_name (c.DirectiveArgument of (string_bytes a.name))) d.arguments.items) in
    (λ e. let h = all.0 e in record { name = h.0; arguments = h.1 }, λ h. all.1 (h.name, h.arguments))
