-- A schema has no fault if and only if its definitions are valid.
use Rattle.std.proofs.Common.{◌≡◌, ◌↔◌, ℕ, List, [], ◌∷◌, ◌++◌, Bool, true, false, not, ◌&&◌, ◌||◌, Option, Some, None, length, ◌==◌, map, refl, sym, ◌∙◌, arith}
use Rattle.std.specs.List.{flat_map}
use Rattle.std.specs.List.Sorted.{IsPermutation}
use Rattle.std.specs.Option.{option_to_list}
use Rattle.std.specs.Str.{bytes_eq}
use Rattle.std.proofs.lemmas.List.Sorted.{All-permutation, IsPermutation-sym}
use Rattle.language.specs.declared.tree.OperationType.TheVariants as o
use Rattle.meta.specs.declared.kinds.MetaTypeOf.{MetaTypeOf}
use Rattle.schema.specs.Catalog.{Catalog}
use Rattle.schema_validation.specs.Accepted.{root_names}
use Rattle.schema_validation.specs.declared.directives.DirectiveType.{DirectiveType}
use Rattle.type_system_report.specs.declared.fault.CoordinateOf.TheVariants as c
use Rattle.type_system_report.specs.declared.fault.FaultKindOf.TheVariants as k
use Rattle.type_system_report.specs.Fault.{CoordinateValue, KindValue, fault_if}
use Rattle.type_system.specs.All.{all_faults, directive_faults, member_faults, own_faults, type_faults}
use Rattle.type_system_interfaces.specs.All.{interface_faults}
use Rattle.type_system_interfaces.specs.Ancestors.{wrong_ancestors}
use Rattle.type_system_interfaces.specs.ImplementedTypes.{wrong_interfaces}
use Rattle.type_system_interfaces.specs.InterfaceFields.{unmet_interfaces}
use Rattle.type_system.specs.OutputTypes.{wrong_output_types}
use Rattle.type_system.specs.RequiredMembers.{deprecated_members}
use Rattle.type_system.specs.ReservedNames.{reserved_names}
use Rattle.type_system.specs.ReservedValues.{reserved_values}
use Rattle.type_system.specs.RootTypes.{shared_name, shared_roots}
use Rattle.type_system.specs.SomeFields.{missing_fields}
use Rattle.type_system.specs.SomeMembers.{missing_members}
use Rattle.type_system.specs.SomeValues.{missing_values}
use Rattle.type_system.specs.UniqueMembers.{repeated_members}
use Rattle.type_system_validity.specs.Members.{AreDistinct}
use Rattle.type_system_validity.specs.Valid.{HasValidDefinitions, IsValidDirective, IsValidType}
use Rattle.type_system_validity.proofs.DirectiveLaws.{iff_directive}
use Rattle.type_system_validity.proofs.Iff.{NoneIff, iff_both, iff_each}
use Rattle.type_system_validity.proofs.InterfaceLaws.{iff_ancestors, iff_implementation, iff_interfaces}
use Rattle.type_system_validity.proofs.MemberLaws.{iff_deprecation, iff_distinct_members, iff_enum_names, iff_field_defined, iff_member_defined, iff_output_types, iff_value_defined}
use Rattle.type_system_validity.proofs.NameLaws.{iff_names}

-- what is found of three pairs of roots, by whether they are one
three_pairs : (x y z : Bool) (a b c : CoordinateValue) (i j l : KindValue)
    → NoneIff ((fault_if x a i ++ fault_if y b j) ++ fault_if z c l) ((not (x || (y || false)) && (not (z || false) && (not false && true))) ≡ true)
three_pairs false false false a b c i j l = (λ e. refl, λ h. refl)
three_pairs false false true a b c i j l = (λ e. absurd cc, λ h. absurd cc)
three_pairs false true z a b c i j l = (λ e. absurd cc, λ h. absurd cc)
three_pairs true y z a b c i j l = (λ e. absurd cc, λ h. absurd cc)

iff_before : (x : Bool) (a : CoordinateValue) (i : KindValue) → NoneIff ((fault_if x a i ++ []) ++ []) ((not (x || false) && (not false && true)) ≡ true)
iff_before false a i = (λ e. refl, λ h. refl)
iff_before true a i = (λ e. absurd cc, λ h. absurd cc)

iff_after : (x : Bool) (a : CoordinateValue) (i : KindValue) → NoneIff (([] ++ fault_if x a i) ++ []) ((not (x || false) && (not false && true)) ≡ true)
iff_after false a i = (λ e. refl, λ h. refl)
iff_after true a i = (λ e. absurd cc, λ h. absurd cc)

iff_roots_of : (q : List ℕ) (m s : Option (List ℕ))
    → NoneIff ((shared_name o.Query o.Mutation (Some q) m ++ shared_name o.Query o.Subscription (Some q) s) ++ shared_name o.Mutation o.Subscription m s)
    (AreDistinct (q ∷ (option_to_list m ++ option_to_list s)))
iff_roots_of q None None = (λ e. refl, λ h. refl)
iff_roots_of q (Some m) None = iff_before (bytes_eq m q) (c.Type q) (k.SharedRoot o.Query o.Mutation)
iff_roots_of q None (Some s) = iff_after (bytes_eq s q) (c.Type q) (k.SharedRoot o.Query o.Subscription)
iff_roots_of q (Some m) (Some s) =
    three_pairs (bytes_eq m q) (bytes_eq s q) (bytes_eq s m) (c.Type q) (c.Type q) (c.Type m) (k.SharedRoot o.Query o.Mutation) (k.SharedRoot o.Query o.Subscription) (k.SharedRoot o.Mutation o.Subscription)

module _ {S C : Type 0} (schema : Catalog S C) where
  iff_roots : NoneIff (shared_roots schema) (AreDistinct (root_names schema.roots))
  iff_roots = iff_roots_of schema.roots.query schema.roots.mutation schema.roots.subscription

  iff_type : (t : MetaTypeOf S C) → NoneIff (type_faults schema t) (IsValidType schema t)
  iff_type t =
      let names = reserved_names schema t in
      let field = missing_fields schema t in
      let value = missing_values t in
      let own = iff_both ((names ++ field) ++ value) (missing_members t) _ _
      (iff_both (names ++ field) value _ _ (iff_both names field _ _ (iff_names schema t) (iff_field_defined schema t)) (iff_value_defined t)) (iff_member_defined t) in
      let interfaces = wrong_interfaces schema t in
      let ancestors = wrong_ancestors t schema in
      let between = iff_both (interfaces ++ ancestors) (unmet_interfaces schema t) _ _
      (iff_both interfaces ancestors _ _ (iff_interfaces schema t) (iff_ancestors schema t)) (iff_implementation schema t) in
      let members = iff_both (repeated_members t ++ reserved_values t) (deprecated_members t) _ _
      (iff_both (repeated_members t) (reserved_values t) _ _ (iff_distinct_members t) (iff_enum_names t)) (iff_deprecation t) in
      let outputs = own_faults schema t ++ wrong_output_types schema t in
      let two = iff_both (own_faults schema t) (wrong_output_types schema t) _ _ own (iff_output_types schema t) in
      let three = iff_both outputs (interface_faults schema t) _ _ two between in
      let all = iff_both (outputs ++ interface_faults schema t) (member_faults t) _ _ three members in (
        λ e. let h = all.0 e in record {
          names = h.0.0.0.0.0.0;
          field = h.0.0.0.0.0.1;
          value = h.0.0.0.0.1;
          member = h.0.0.0.1;
          output_types = h.0.0.1;
          interfaces = h.0.1.0.0;
          ancestors = h.0.1.0.1;
          implementation = h.0.1.1;
          distinct_members = h.1.0.0;
          enum_names = h.1.0.1;
          deprecation = h.1.1;
        },
        λ v. all.1 ((((((v.names, v.field), v.value), v.member), v.output_types), ((v.interfaces, v.ancestors), v.implementation)), ((v.distinct_members, v.enum_names), v.deprecation)),
      )

  -- whatever the order of the directives
  pub iff_definitions : (directives : List (DirectiveType S)) → IsPermutation schema.directives directives → NoneIff (all_faults schema ++ flat_map directive_faults directives) (HasValidDefinitions schema)
  iff_definitions directives moved =
      let types = iff_each (type_faults schema) (IsValidType schema) iff_type schema.types in
      let each_directive = iff_each directive_faults IsValidDirective iff_directive directives in
      let definitions = iff_both (shared_roots schema) (flat_map (type_faults schema) schema.types) _ _ iff_roots types in
      let all = iff_both (all_faults schema) (flat_map directive_faults directives) _ _ definitions each_directive in (
        λ e. let h = all.0 e in record {
          roots = h.0.0;
          types = h.0.1;
          directives = All-permutation IsValidDirective directives schema.directives (IsPermutation-sym schema.directives directives moved) h.1;
        },
        λ v. all.1 ((v.roots, v.types), All-permutation IsValidDirective schema.directives directives moved v.directives),
      )

-- a list is empty where what it says is
pub mapped_none : {X Y : Type 0} (f : X → Y) (xs : List X) → ((length xs == 0) ≡ true) ↔ (map f xs ≡ [])
mapped_none f [] = (λ e. refl, λ h. refl)
mapped_none f (x ∷ xs) =
    (λ e. absurd (let some : (length (x ∷ xs) == 0) ≡ false = grind arith in let bad : true ≡ false = sym e ∙ some in cc), λ h. absurd cc)
