-- Where directives stand in a type system document (section 3.13).
use Rattle.std.specs.Prelude.{List, [], ◌∷◌, ◌++◌, Option, Some, None, Vec, map}
use Rattle.std.specs.List.{flat_map}
use Rattle.std.specs.declared.alloc.Global.{Global}
use Rattle.graphql_reader.specs.declared.type_system.DirectivePlace.{DirectivePlace}
use Rattle.graphql_reader.specs.declared.type_system.DirectivePlace.TheVariants as l
use Rattle.graphql_reader.specs.declared.type_system.EnumValueDefinition.{EnumValueDefinition}
use Rattle.graphql_reader.specs.declared.type_system.FieldDefinition.{FieldDefinition}
use Rattle.graphql_reader.specs.declared.type_system.InputValueDefinition.{InputValueDefinition}
use Rattle.graphql_reader.specs.declared.type_system.TypeBody.{TypeBody}
use Rattle.graphql_reader.specs.declared.type_system.TypeBody.TheVariants as b
use Rattle.graphql_reader.specs.declared.type_system.TypeSystemDefinition.{TypeSystemDefinition}
use Rattle.graphql_reader.specs.declared.type_system.TypeSystemDefinition.TheVariants as d
use Rattle.language.specs.declared.tree.Directive.{Directive}
use Rattle.language_types.specs.Position.{Placed}
use Rattle.sdl_scalars.specs.declared.scalar.SourceScalar.{SourceScalar}
use Rattle.sdl_directives.specs.declared.sites.Site.{Site}
use Rattle.sdl_directives.specs.Locations.{body_location}

-- a directive of the text
abbrev pub Applied : Type 0
Applied = Placed (Directive SourceScalar)

-- directives that stand together, and their location
pub record SiteValue : Type 0 where
  pub location : DirectivePlace
  pub directives : List Applied

abbrev pub site_value : Site → SiteValue
site_value s = record { location = s.location; directives = s.directives.now }

abbrev pub site_values : List Site → List SiteValue
site_values = map site_value

-- the directives of something, if it has some
abbrev pub site_at : DirectivePlace → Option (Vec Applied Global) → List SiteValue
site_at location None = []
site_at location (Some ds) = record { location = location; directives = ds.items } ∷ []

-- those of an argument or of a field of an input object
abbrev pub parameter_sites : DirectivePlace → InputValueDefinition → List SiteValue
parameter_sites location a = site_at location a.directives

-- of the arguments of a field and then of the field
abbrev pub field_sites : FieldDefinition → List SiteValue
field_sites f = flat_map (parameter_sites l.ArgumentDefinition) f.arguments.items ++ site_at l.FieldDefinition f.directives

-- of a value of an enum
abbrev pub enum_value_sites : EnumValueDefinition → List SiteValue
enum_value_sites v = site_at l.EnumValue v.directives

-- of the members of a type
abbrev pub body_sites : TypeBody → List SiteValue
body_sites (b.Object fs) = flat_map field_sites fs.items
body_sites (b.Interface fs) = flat_map field_sites fs.items
body_sites (b.Enum vs) = flat_map enum_value_sites vs.items
body_sites (b.InputObject fs) = flat_map (parameter_sites l.InputFieldDefinition) fs.items
body_sites _ = []

-- of a definition or extension and then of its members
abbrev pub definition_sites : TypeSystemDefinition → List SiteValue
definition_sites (d.Schema x) = site_at l.Schema x.item.directives
definition_sites (d.Type x) = site_at (body_location x.item.body) x.item.directives ++ body_sites x.item.body
definition_sites (d.Directive x) = flat_map (parameter_sites l.ArgumentDefinition) x.item.arguments.items
