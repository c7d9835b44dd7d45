-- Valid type systems (section 3).
use Rattle.std.specs.Prelude.{ℕ, ◌<◌, List, length}
use Rattle.std.specs.List.{All}
use Rattle.language_values.specs.declared.value.InputValue.{InputValue}
use Rattle.meta.specs.Answers.{Answers}
use Rattle.meta.specs.declared.kinds.MetaTypeOf.{MetaTypeOf}
use Rattle.schema.specs.Catalog.{Catalog}
use Rattle.schema_validation.specs.Accepted.{root_names}
use Rattle.schema_validation.specs.declared.directives.DirectiveType.{DirectiveType}
use Rattle.type_system_defaults.specs.Conforming.{HasConformingDefaults}
use Rattle.type_system_validity.specs.Deprecation.{DeprecatesOptionalMembers, IsCurrentIfRequired}
use Rattle.type_system_validity.specs.Implementation.{ImplementsFields}
use Rattle.type_system_validity.specs.Interfaces.{ImplementsAncestors, ImplementsInterfaces}
use Rattle.type_system_validity.specs.Members.{AreDistinct, DefinesField, DefinesMember, DefinesValue}
use Rattle.type_system_validity.specs.Members.{HasDistinctMembers, HasEnumNames, HasOutputTypes}
use Rattle.type_system_validity.specs.Names.{HasUnreservedDirective, HasUnreservedNames}

-- A type is as sections 3.6 to 3.10 ask.
pub record IsValidType {S C : Type 0} (schema : Catalog S C) (t : MetaTypeOf S C) : Type 0 where
  pub names : HasUnreservedNames schema t
  pub field : DefinesField schema t
  pub value : DefinesValue t
  pub member : DefinesMember t
  pub output_types : HasOutputTypes schema t
  pub interfaces : ImplementsInterfaces schema t
  pub ancestors : ImplementsAncestors schema t
  pub implementation : ImplementsFields schema t
  pub distinct_members : HasDistinctMembers t
  pub enum_names : HasEnumNames t
  pub deprecation : DeprecatesOptionalMembers t

-- A directive is as section 3.13 asks.
pub record IsValidDirective {S : Type 0} (d : DirectiveType S) : Type 0 where
  pub names : HasUnreservedDirective d
  pub location : 0 < length d.locations.items
  pub deprecation : All IsCurrentIfRequired d.arguments.items

-- The roots are different types (section 3.3.1), and each type and each directive is valid.
pub record HasValidDefinitions {S C : Type 0} (schema : Catalog S C) : Type 0 where
  pub roots : AreDistinct (root_names schema.roots)
  pub types : All (IsValidType schema) schema.types
  pub directives : All IsValidDirective schema.directives

-- A schema is a valid type system. What each `Catalog` has, such as input types of arguments, is not said again.
pub record IsValidTypeSystem {S C : Type 0} (schema : Catalog S C) (may : Answers (InputValue S) C)
    (shown : InputValue S → List ℕ) : Type 0 where
  pub definitions : HasValidDefinitions schema
  pub defaults : HasConformingDefaults schema may shown
