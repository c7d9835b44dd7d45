-- What the metadata of each kind says (section 3.4).
use Rattle.std.specs.Prelude.{ℕ, List, [], Bool, true, false, ◌||◌, Option, Some, None, option_map, string_bytes, find}
use Rattle.std.specs.Prelude.{nat_eq, codes}
use Rattle.std.specs.List.{starts_with}
use Rattle.std.specs.Option.{option_map_or}
use Rattle.std.specs.Str.{bytes_eq}
use Rattle.language_types.specs.Types.{TypeShape, shape, non_null_named, non_null_of, nullable_of, list_of}
use Rattle.meta.specs.declared.fields.Field.{Field}
use Rattle.meta.specs.declared.arguments.Argument.{Argument}
use Rattle.meta.specs.declared.wrappers.ListMeta.{ListMeta}
use Rattle.meta.specs.declared.kinds.TypeKind.{TypeKind}
use Rattle.meta.specs.declared.kinds.TypeKind.TheVariants as k
use Rattle.meta.specs.declared.kinds.MetaTypeOf.{MetaTypeOf}
use Rattle.meta.specs.declared.kinds.MetaTypeOf.TheVariants as m
use Rattle.meta.specs.Kept.{takes_any_literal}

abbrev pub is_builtin_name : List ℕ → Bool
is_builtin_name n =
    starts_with nat_eq n (codes "__")
    || bytes_eq n (codes "Boolean")
    || bytes_eq n (codes "String")
    || bytes_eq n (codes "Int")
    || bytes_eq n (codes "Float")
    || bytes_eq n (codes "ID")
    || bytes_eq n (codes "_EmptyMutation")
    || bytes_eq n (codes "_EmptySubscription")

-- the non-null list of its type
abbrev pub list_type_of : ListMeta → TypeShape
list_type_of x = non_null_of (list_of x.expected_size (shape x.of_type))

module _ {S C : Type 0} where
  -- the name of a kind that has one
  abbrev pub name_of_meta : MetaTypeOf S C → Option (List ℕ)
  name_of_meta (m.Scalar x) = Some (string_bytes x.name)
  name_of_meta (m.List x) = None
  name_of_meta (m.Nullable x) = None
  name_of_meta (m.Object x) = Some (string_bytes x.name)
  name_of_meta (m.Enum x) = Some (string_bytes x.name)
  name_of_meta (m.Interface x) = Some (string_bytes x.name)
  name_of_meta (m.Union x) = Some (string_bytes x.name)
  name_of_meta (m.InputObject x) = Some (string_bytes x.name)
  name_of_meta (m.Placeholder x) = None

  abbrev pub description_of_meta : MetaTypeOf S C → Option (List ℕ)
  description_of_meta (m.Scalar x) = option_map string_bytes x.description
  description_of_meta (m.List x) = None
  description_of_meta (m.Nullable x) = None
  description_of_meta (m.Object x) = option_map string_bytes x.description
  description_of_meta (m.Enum x) = option_map string_bytes x.description
  description_of_meta (m.Interface x) = option_map string_bytes x.description
  description_of_meta (m.Union x) = option_map string_bytes x.description
  description_of_meta (m.InputObject x) = option_map string_bytes x.description
  description_of_meta (m.Placeholder x) = None

  abbrev pub url_of_meta : MetaTypeOf S C → Option (List ℕ)
  url_of_meta (m.Scalar x) = option_map string_bytes x.specified_by_url
  url_of_meta _ = None

  -- a scalar whose check is asked of any literal
  abbrev pub is_any_literal_meta : MetaTypeOf S C → Bool
  is_any_literal_meta (m.Scalar x) = takes_any_literal x
  is_any_literal_meta _ = false

  -- neither a nullable type nor a placeholder has one
  abbrev pub kind_of_meta : MetaTypeOf S C → Option TypeKind
  kind_of_meta (m.Scalar x) = Some k.Scalar
  kind_of_meta (m.List x) = Some k.List
  kind_of_meta (m.Nullable x) = None
  kind_of_meta (m.Object x) = Some k.Object
  kind_of_meta (m.Enum x) = Some k.Enum
  kind_of_meta (m.Interface x) = Some k.Interface
  kind_of_meta (m.Union x) = Some k.Union
  kind_of_meta (m.InputObject x) = Some k.InputObject
  kind_of_meta (m.Placeholder x) = None

  -- the fields of an object or an interface
  abbrev pub fields_of : MetaTypeOf S C → List (Field S)
  fields_of (m.Object x) = x.fields.items
  fields_of (m.Interface x) = x.fields.items
  fields_of _ = []

  -- the first field of the name
  abbrev pub field_named : List ℕ → MetaTypeOf S C → Option (Field S)
  field_named name t = find (λ f. bytes_eq (string_bytes f.name) name) (fields_of t)

  -- the fields of an input object
  abbrev pub input_fields_of : MetaTypeOf S C → List (Argument S)
  input_fields_of (m.InputObject x) = x.input_fields.items
  input_fields_of _ = []

  -- the first field of the name
  abbrev pub input_field_named : List ℕ → MetaTypeOf S C → Option (Argument S)
  input_field_named name t = find (λ a. bytes_eq (string_bytes a.name) name) (input_fields_of t)

  -- the type that the metadata describes
  abbrev pub type_of_meta : MetaTypeOf S C → TypeShape
  type_of_meta (m.Scalar x) = non_null_named (string_bytes x.name)
  type_of_meta (m.List x) = list_type_of x
  type_of_meta (m.Nullable x) = nullable_of (shape x.of_type)
  type_of_meta (m.Object x) = non_null_named (string_bytes x.name)
  type_of_meta (m.Enum x) = non_null_named (string_bytes x.name)
  type_of_meta (m.Interface x) = non_null_named (string_bytes x.name)
  type_of_meta (m.Union x) = non_null_named (string_bytes x.name)
  type_of_meta (m.InputObject x) = non_null_named (string_bytes x.name)
  type_of_meta (m.Placeholder x) = shape x.of_type

  -- the check of a kind that has one
  abbrev pub check_of_meta : MetaTypeOf S C → Option C
  check_of_meta (m.Scalar x) = Some x.check
  check_of_meta (m.Enum x) = Some x.check
  check_of_meta (m.InputObject x) = Some x.check
  check_of_meta _ = None

  -- an object
  abbrev pub is_object_meta : MetaTypeOf S C → Bool
  is_object_meta (m.Object x) = true
  is_object_meta _ = false

  -- an object, an interface or a union
  abbrev pub is_composite_meta : MetaTypeOf S C → Bool
  is_composite_meta (m.Object x) = true
  is_composite_meta (m.Interface x) = true
  is_composite_meta (m.Union x) = true
  is_composite_meta _ = false

  -- a scalar or an enum
  abbrev pub is_leaf_meta : MetaTypeOf S C → Bool
  is_leaf_meta (m.Scalar x) = true
  is_leaf_meta (m.Enum x) = true
  is_leaf_meta _ = false

  -- an interface or a union
  abbrev pub is_abstract_meta : MetaTypeOf S C → Bool
  is_abstract_meta (m.Interface x) = true
  is_abstract_meta (m.Union x) = true
  is_abstract_meta _ = false

  -- a scalar, an enum or an input object
  abbrev pub is_input_meta : MetaTypeOf S C → Bool
  is_input_meta (m.Scalar x) = true
  is_input_meta (m.Enum x) = true
  is_input_meta (m.InputObject x) = true
  is_input_meta _ = false

  -- the name begins with `__`, or is that of a scalar of the specification or of an empty root
  abbrev pub is_builtin_meta : MetaTypeOf S C → Bool
  is_builtin_meta t = option_map_or is_builtin_name (name_of_meta t) false
