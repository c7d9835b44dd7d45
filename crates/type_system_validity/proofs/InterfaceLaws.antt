-- What a type implements has no fault if and only if it is as it should be.
use Rattle.std.proofs.Common.{◌≡◌, ℕ, List, [], ◌++◌, true, false, Option, Some, None, codes, string_bytes}
use Rattle.std.specs.Prelude.{is_none}
use Rattle.std.specs.Str.{bytes_eq}
use Rattle.language_types.specs.Names.{is_among}
use Rattle.language_types.specs.Types.{shape}
use Rattle.meta.specs.declared.arguments.Argument.{Argument}
use Rattle.meta.specs.declared.fields.Field.{Field}
use Rattle.meta.specs.declared.kinds.MetaTypeOf.{MetaTypeOf}
use Rattle.meta.specs.declared.kinds.MetaTypeOf.TheVariants as m
use Rattle.meta.specs.Arguments.{arguments_of}
use Rattle.meta.specs.Kinds.{field_named}
use Rattle.schema.specs.Catalog.{Catalog, type_in}
use Rattle.schema_validation.specs.Names.{interfaces_of}
use Rattle.type_system_report.specs.declared.fault.CoordinateOf.TheVariants as c
use Rattle.type_system_report.specs.declared.fault.FaultKindOf.TheVariants as k
use Rattle.type_system_interfaces.specs.AddedArguments.{added_argument, added_arguments}
use Rattle.type_system_interfaces.specs.Ancestors.{unnamed, wrong_ancestor, wrong_ancestors, wrong_ancestors_by}
use Rattle.type_system_interfaces.specs.Arguments.{argument_named, is_required}
use Rattle.type_system_interfaces.specs.FieldTypes.{is_field_type, wrong_field_type}
use Rattle.type_system_interfaces.specs.ImplementedTypes.{implemented_again, is_interface, is_interface_named, no_interface, own_interface, wrong_interfaces}
use Rattle.type_system_interfaces.specs.InterfaceArguments.{unmet_argument, unmet_arguments, unmet_by as unmet_argument_by}
use Rattle.type_system_interfaces.specs.InterfaceFields.{unmet_by, unmet_field, unmet_interfaces, unmet_named, unmet_pair}
use Rattle.type_system_interfaces.specs.Members.{name_in}
use Rattle.type_system_interfaces.specs.Pair.{PairValue, given_argument, given_field, wanted_argument, wanted_field}
use Rattle.type_system_interfaces.specs.SameTypes.{is_same_type}
use Rattle.type_system_validity.specs.Implementation.{HasSameType, Implements, ImplementsFields, ImplementsFieldsOf, IsImplemented}
use Rattle.type_system_validity.specs.Interfaces.{ImplementsAncestors, ImplementsInterfaces, ImplementsThoseOf}
use Rattle.type_system_validity.proofs.Iff.{NoneIff, iff_both, iff_both_entries, iff_distinct, iff_each, iff_entries, iff_if_both, iff_if_first, iff_last_entries, iff_nothing, iff_unless, iff_unless_skipped, some_fault}

module _ {S C : Type 0} (schema : Catalog S C) where
  pub iff_interfaces : (t : MetaTypeOf S C) → NoneIff (wrong_interfaces schema t) (ImplementsInterfaces schema t)
  iff_interfaces t =
      let at = c.Type (name_in t) in
      let names = interfaces_of t in
      let kinds = iff_entries (no_interface schema t) (λ n. is_interface_named schema n ≡ true) (λ n. iff_unless (is_interface_named schema n) at (k.NotInterface n)) names in
      let others = iff_entries (own_interface t) (λ n. is_interface t ≡ true → bytes_eq (name_in t) n ≡ false) (λ n. iff_if_first (is_interface t) (bytes_eq (name_in t) n) at k.OwnInterface) names in
      let two = iff_both_entries (λ n ns. no_interface schema t n) (implemented_again t) names _ _ kinds (iff_distinct at k.RepeatedInterface names) in
      let all = iff_both_entries (λ n ns. no_interface schema t n ++ implemented_again t n ns) (λ n ns. own_interface t n) names _ _ two others in
      (λ e. let h = all.0 e in record { interfaces = h.0.0; once = h.0.1; others = h.1 }, λ h. all.1 ((h.interfaces, h.once), h.others))

  module _ (t : MetaTypeOf S C) where
    iff_ancestors_of : (j : List ℕ) (o : Option (MetaTypeOf S C)) → NoneIff (wrong_ancestors_by t j o) (ImplementsThoseOf schema t o)
    iff_ancestors_of j (Some (m.Interface x)) =
        iff_each (λ i. wrong_ancestor t j (string_bytes i)) (λ i. is_among (interfaces_of t) (string_bytes i) ≡ true)
        (λ i. iff_unless (is_among (interfaces_of t) (string_bytes i)) (c.Type (name_in t)) (unnamed t j (string_bytes i)))
        x.interface_names.items
    iff_ancestors_of j _ = iff_nothing

    pub iff_ancestors : NoneIff (wrong_ancestors t schema) (ImplementsAncestors schema t)
    iff_ancestors =
        iff_last_entries (λ n. wrong_ancestors_by t n (type_in n schema)) (λ n. ImplementsThoseOf schema t (type_in n schema))
        (λ n. iff_ancestors_of n (type_in n schema)) (interfaces_of t)

  module _ (p : PairValue S) where
    iff_argument_by : (a : Argument S) (o : Option (Argument S)) → NoneIff (unmet_argument_by p a o) (HasSameType a o)
    iff_argument_by a None = some_fault _ []
    iff_argument_by a (Some b) =
        iff_unless (is_same_type (shape a.arg_type) (shape b.arg_type)) (given_argument p (string_bytes a.name))
        (k.WrongArgumentType (wanted_argument p (string_bytes a.name)) (shape a.arg_type) (shape b.arg_type))

    iff_pair : NoneIff (unmet_pair schema p) (Implements schema p.wanted p.given)
    iff_pair =
        let type_suits = iff_unless (is_field_type schema (shape p.given.field_type) (shape p.wanted.field_type)) (given_field p)
        (k.WrongFieldType (wanted_field p) (shape p.wanted.field_type) (shape p.given.field_type)) in
        let arguments = iff_each (unmet_argument p) (λ a. HasSameType a (argument_named (string_bytes a.name) p.given))
        (λ a. iff_argument_by a (argument_named (string_bytes a.name) p.given)) (arguments_of p.wanted) in
        let others = iff_each (added_argument p) (λ a. is_none (argument_named (string_bytes a.name) p.wanted) ≡ true → is_required a ≡ false)
        (λ a. iff_if_both (is_required a) (is_none (argument_named (string_bytes a.name) p.wanted)) (given_argument p (string_bytes a.name)) (k.AddedArgument (wanted_field p)))
        (arguments_of p.given) in
        let two = iff_both (wrong_field_type schema p) (unmet_arguments p) _ _ type_suits arguments in
        let all = iff_both (wrong_field_type schema p ++ unmet_arguments p) (added_arguments p) _ _ two others in
        (λ e. let h = all.0 e in record { type_suits = h.0.0; arguments = h.0.1; others = h.1 }, λ h. all.1 ((h.type_suits, h.arguments), h.others))

  module _ (t : MetaTypeOf S C) where
    iff_field_by : (interface : List ℕ) (g : Field S) (o : Option (Field S)) → NoneIff (unmet_by schema t interface g o) (IsImplemented schema g o)
    iff_field_by interface g None = some_fault _ []
    iff_field_by interface g (Some f) = iff_pair (record { of = name_in t; given = f; interface = interface; wanted = g })

    iff_fields_of : (o : Option (MetaTypeOf S C)) → NoneIff (unmet_named schema t o) (ImplementsFieldsOf schema t o)
    iff_fields_of (Some (m.Interface x)) =
        iff_each (unmet_field schema t (string_bytes x.name)) (λ g. bytes_eq (string_bytes g.name) (codes "__typename") ≡ false → IsImplemented schema g (field_named (string_bytes g.name) t))
        (λ g. iff_unless_skipped (bytes_eq (string_bytes g.name) (codes "__typename")) (unmet_by schema t (string_bytes x.name) g (field_named (string_bytes g.name) t)) _
        (iff_field_by (string_bytes x.name) g (field_named (string_bytes g.name) t)))
        x.fields.items
    iff_fields_of _ = iff_nothing

    pub iff_implementation : NoneIff (unmet_interfaces schema t) (ImplementsFields schema t)
    iff_implementation =
        iff_last_entries (λ n. unmet_named schema t (type_in n schema)) (λ n. ImplementsFieldsOf schema t (type_in n schema))
        (λ n. iff_fields_of (type_in n schema)) (interfaces_of t)
