-- What a type implements (sections 3.6 and 3.7).
use Rattle.std.specs.Prelude.{◌≡◌, ⊤, true, false, Option, Some, string_bytes}
use Rattle.std.specs.List.{All}
use Rattle.std.specs.Str.{bytes_eq}
use Rattle.language_types.specs.Names.{is_among}
use Rattle.meta.specs.declared.kinds.MetaTypeOf.{MetaTypeOf}
use Rattle.meta.specs.declared.kinds.MetaTypeOf.TheVariants as m
use Rattle.schema.specs.Catalog.{Catalog, type_in}
use Rattle.schema_validation.specs.Names.{interfaces_of}
use Rattle.type_system_interfaces.specs.ImplementedTypes.{is_interface, is_interface_named}
use Rattle.type_system_interfaces.specs.Members.{name_in}
use Rattle.type_system_validity.specs.Members.{AreDistinct}

module _ {S C : Type 0} (schema : Catalog S C) (t : MetaTypeOf S C) where
  -- A type implements interfaces, each once, and an interface does not implement itself.
  pub record ImplementsInterfaces : Type 0 where
    pub interfaces : All (λ n. is_interface_named schema n ≡ true) (interfaces_of t)
    pub once : AreDistinct (interfaces_of t)
    pub others : All (λ n. is_interface t ≡ true → bytes_eq (name_in t) n ≡ false) (interfaces_of t)

  -- the type implements what this interface of it implements
  abbrev pub ImplementsThoseOf : Option (MetaTypeOf S C) → Type 0
  ImplementsThoseOf (Some (m.Interface x)) = All (λ i. is_among (interfaces_of t) (string_bytes i) ≡ true) x.interface_names.items
  ImplementsThoseOf _ = ⊤

  -- the same of each of its interfaces
  abbrev pub ImplementsAncestors : Type 0
  ImplementsAncestors = All (λ n. ImplementsThoseOf (type_in n schema)) (interfaces_of t)
