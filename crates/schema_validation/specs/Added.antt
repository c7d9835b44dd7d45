-- What a schema adds to a list of types: two fields of the query root, and four directives (sections 3.13 and 4.1).
use Rattle.std.specs.Prelude.{◌≡◌, ℕ, List, [], ◌∷◌, ◌++◌, Bool, false, Option, Some, None, is_some, codes, map}
use Rattle.std.specs.Prelude.{option_map, string_bytes}
use Rattle.language_types.specs.Types.{TypeShape, shape, non_null_named}
use Rattle.meta.specs.declared.arguments.Argument.{Argument}
use Rattle.meta.specs.declared.fields.Field.{Field}
use Rattle.meta.specs.declared.objects.ObjectMeta.{ObjectMeta}
use Rattle.meta.specs.declared.kinds.MetaTypeOf.{MetaTypeOf}
use Rattle.meta.specs.declared.kinds.MetaTypeOf.TheVariants as m
use Rattle.schema_validation.specs.declared.directives.DirectiveType.{DirectiveType}
use Rattle.schema_validation.specs.declared.directives.DirectiveLocation.{DirectiveLocation}
use Rattle.schema_validation.specs.declared.directives.DirectiveLocation.TheVariants as l
use Rattle.meta.specs.Deprecation.{is_deprecated_status}

-- What an argument, a field and a directive say, with no memory in it.
pub record ArgumentShape : Type 0 where
  pub name : List ℕ
  pub description : Option (List ℕ)
  pub arg_type : TypeShape
  pub has_default : Bool

pub record FieldShape : Type 0 where
  pub name : List ℕ
  pub description : Option (List ℕ)
  pub arguments : Option (List ArgumentShape)
  pub field_type : TypeShape
  pub is_deprecated : Bool

pub record DirectiveShape : Type 0 where
  pub name : List ℕ
  pub description : Option (List ℕ)
  pub locations : List DirectiveLocation
  pub arguments : List ArgumentShape
  pub is_repeatable : Bool

module _ {S : Type 0} where
  abbrev pub argument_shape : Argument S → ArgumentShape
  argument_shape a = record {
    name = string_bytes a.name;
    description = option_map string_bytes a.description;
    arg_type = shape a.arg_type;
    has_default = is_some a.default_value;
  }

  abbrev pub field_shape : Field S → FieldShape
  field_shape f = record {
    name = string_bytes f.name;
    description = option_map string_bytes f.description;
    arguments = option_map (λ v. map argument_shape v.items) f.arguments;
    field_type =
        shape f.field_type;
    is_deprecated = is_deprecated_status f.deprecation_status;
  }

  abbrev pub directive_shape : DirectiveType S → DirectiveShape
  directive_shape d = record {
    name = string_bytes d.name;
    description = option_map string_bytes d.description;
    locations = d.locations.items;
    arguments = map argument_shape d.arguments.items;
    is_repeatable = d.is_repeatable;
  }

-- an argument of this name and this type, non-null
abbrev pub required : List ℕ → List ℕ → ArgumentShape
required name type_name = record { name = name; description = None; arg_type = non_null_named type_name; has_default = false }

-- a field of this name and this type, non-null
abbrev pub always : List ℕ → Option (List ArgumentShape) → List ℕ → FieldShape
always name arguments type_name =
    record {
      name = name;
      description = None;
      arguments = arguments;
      field_type = non_null_named type_name;
      is_deprecated = false;
    }

-- `__schema: __Schema!`
abbrev pub schema_field : FieldShape
schema_field = always (codes "__schema") None (codes "__Schema")

-- `__type(name: String!): __Type!`
abbrev pub type_field : FieldShape
type_field = always (codes "__type") (Some (required (codes "name") (codes "String") ∷ [])) (codes "__Type")

-- a directive with one argument, which may be used once at a location
abbrev pub with_argument : List ℕ → List DirectiveLocation → List ℕ → List ℕ → DirectiveShape
with_argument name locations argument type_name =
    record {
      name = name;
      description = None;
      locations = locations;
      arguments = required argument type_name ∷ [];
      is_repeatable = false;
    }

-- `skip` and `include`, each with `if: Boolean!`
abbrev pub conditional : List ℕ → DirectiveShape
conditional name = with_argument name (l.Field ∷ l.FragmentSpread ∷ l.InlineFragment ∷ []) (codes "if") (codes "Boolean")

-- `deprecated`, with `reason: String!`
abbrev pub deprecated_shape : DirectiveShape
deprecated_shape = with_argument (codes "deprecated") (l.FieldDefinition ∷ l.EnumValue ∷ []) (codes "reason") (codes "String")

-- `specifiedBy`, with `url: String!`
abbrev pub specified_by_shape : DirectiveShape
specified_by_shape = with_argument (codes "specifiedBy") (l.Scalar ∷ []) (codes "url") (codes "String")

abbrev pub standard_directives : List DirectiveShape
standard_directives = conditional (codes "skip") ∷ conditional (codes "include") ∷ deprecated_shape ∷ specified_by_shape ∷ []

-- The object has two more fields at its end, and is otherwise the same.
pub record HasAddedFields {S : Type 0} (old new : ObjectMeta S) : Type 0 where
  pub name : new.name ≡ old.name
  pub description : new.description ≡ old.description
  pub interfaces : new.interface_names ≡ old.interface_names
  pub fields : (f g : Field S) × (new.fields.items ≡ old.fields.items ++ f ∷ g ∷ []) × (field_shape f ≡ schema_field)
      × (field_shape g ≡ type_field)

-- The object of this name has two more fields, and the list is otherwise the same.
pub record IsExtended {S C : Type 0} (query : List ℕ) (old new : List (MetaTypeOf S C)) : Type 0 where
  pub before : List (MetaTypeOf S C)
  pub after : List (MetaTypeOf S C)
  pub root : ObjectMeta S
  pub extended : ObjectMeta S
  pub old_is : old ≡ before ++ m.Object root ∷ after
  pub new_is : new ≡ before ++ m.Object extended ∷ after
  pub named : string_bytes root.name ≡ query
  pub added : HasAddedFields root extended
