-- Names that introspection does not reserve (sections 3.3 and 3.6 to 3.13).
use Rattle.std.specs.Prelude.{◌≡◌, ℕ, List, false, string_bytes}
use Rattle.std.specs.List.{All}
use Rattle.meta.specs.declared.fields.Field.{Field}
use Rattle.meta.specs.declared.kinds.MetaTypeOf.{MetaTypeOf}
use Rattle.meta.specs.Arguments.{arguments_of}
use Rattle.meta.specs.Kinds.{fields_of, input_fields_of}
use Rattle.schema.specs.Catalog.{Catalog}
use Rattle.schema_validation.specs.declared.directives.DirectiveType.{DirectiveType}
use Rattle.type_system.specs.Introspected.{is_introspection_field, is_introspection_type, is_reserved}
use Rattle.type_system_interfaces.specs.Members.{name_in, values_of}

-- the name does not begin with `__`
abbrev pub IsUnreserved : List ℕ → Type 0
IsUnreserved name = is_reserved name ≡ false

module _ {S C : Type 0} (schema : Catalog S C) where
  -- the names of a field of the type of this name, unless it is one of introspection, and of its arguments
  pub record HasUnreservedField (of : List ℕ) (f : Field S) : Type 0 where
    pub name : is_introspection_field schema of (string_bytes f.name) ≡ false → IsUnreserved (string_bytes f.name)
    pub arguments : All (λ a. IsUnreserved (string_bytes a.name)) (arguments_of f)

  -- The names of a type, unless it is one of introspection, and of its members.
  pub record HasUnreservedNames (t : MetaTypeOf S C) : Type 0 where
    pub name : is_introspection_type (name_in t) ≡ false → IsUnreserved (name_in t)
    pub fields : All (HasUnreservedField (name_in t)) (fields_of t)
    pub input_fields : All (λ a. IsUnreserved (string_bytes a.name)) (input_fields_of t)
    pub values : All (λ v. IsUnreserved (string_bytes v.name)) (values_of t)

-- The names of a directive and its arguments.
pub record HasUnreservedDirective {S : Type 0} (d : DirectiveType S) : Type 0 where
  pub name : IsUnreserved (string_bytes d.name)
  pub arguments : All (λ a. IsUnreserved (string_bytes a.name)) d.arguments.items
