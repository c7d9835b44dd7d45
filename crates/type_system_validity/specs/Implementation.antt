-- How a type implements the fields of its interfaces: IsValidImplementation (section 3.6).
use Rattle.std.specs.Prelude.{◌≡◌, ⊤, true, false, Option, Some, None, codes, is_none, string_bytes}
use Rattle.std.specs.List.{All}
use Rattle.std.specs.Str.{bytes_eq}
use Rattle.language_types.specs.Types.{shape}
use Rattle.meta.specs.declared.arguments.Argument.{Argument}
use Rattle.meta.specs.declared.fields.Field.{Field}
use Rattle.meta.specs.declared.kinds.MetaTypeOf.{MetaTypeOf}
use Rattle.meta.specs.declared.kinds.MetaTypeOf.TheVariants as m
use Rattle.meta.specs.Arguments.{arguments_of}
use Rattle.meta.specs.Kinds.{field_named}
use Rattle.schema.specs.Catalog.{Catalog, type_in}
use Rattle.schema_validation.specs.Names.{interfaces_of}
use Rattle.type_system_interfaces.specs.Arguments.{argument_named, is_required}
use Rattle.type_system_interfaces.specs.FieldTypes.{is_field_type}
use Rattle.type_system_interfaces.specs.SameTypes.{is_same_type}

-- there is an argument, and it has the type of this one
abbrev pub HasSameType : {S : Type 0} → Argument S → Option (Argument S) → Type 0
HasSameType a None = ⊥
HasSameType a (Some b) = is_same_type (shape a.arg_type) (shape b.arg_type) ≡ true

module _ {S C : Type 0} (schema : Catalog S C) where
  -- A field may stand for the first one, which is an interface's: its type may stand for that one's, it has each
  -- argument of that one, and an argument that only it has is not required.
  pub record Implements (wanted : Field S) (given : Field S) : Type 0 where
    pub type_suits : is_field_type schema (shape given.field_type) (shape wanted.field_type) ≡ true
    pub arguments : All (λ a. HasSameType a (argument_named (string_bytes a.name) given)) (arguments_of wanted)
    pub others : All (λ a. is_none (argument_named (string_bytes a.name) wanted) ≡ true → is_required a ≡ false) (arguments_of given)

  -- there is a field, and it may stand for this one
  abbrev pub IsImplemented : Field S → Option (Field S) → Type 0
  IsImplemented wanted None = ⊥
  IsImplemented wanted (Some given) = Implements wanted given

  module _ (t : MetaTypeOf S C) where
    -- the type implements each field of this interface but `__typename`, which each type has
    abbrev pub ImplementsFieldsOf : Option (MetaTypeOf S C) → Type 0
    ImplementsFieldsOf (Some (m.Interface x)) =
        All (λ g. bytes_eq (string_bytes g.name) (codes "__typename") ≡ false
        → IsImplemented g (field_named (string_bytes g.name) t)) x.fields.items
    ImplementsFieldsOf _ = ⊤

    -- the same of each of its interfaces
    abbrev pub ImplementsFields : Type 0
    ImplementsFields = All (λ n. ImplementsFieldsOf (type_in n schema)) (interfaces_of t)
