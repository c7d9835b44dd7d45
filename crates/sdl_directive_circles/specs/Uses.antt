-- What refers to what in a type system document (section 3.13), by names of directives and of types. A directive refers
-- to the directives on its arguments and to the types of these. A type refers to each directive that stands in its
-- definition or in an extension of it, and an input object to the types of its fields, too. The types of other fields
-- do not count, since objects and interfaces are no types of arguments. Where a name is defined several times, each
-- definition counts.
use denote.Ref.{Bor}
use Rattle.std.specs.Prelude.{◌≡◌, ℕ, List, [], ◌∷◌, ◌++◌, Option, Some, None, map}
use Rattle.std.specs.List.{Contains, flat_map}
use Rattle.graphql_reader.specs.declared.type_system.DirectiveDefinition.{DirectiveDefinition}
use Rattle.graphql_reader.specs.declared.type_system.InputValueDefinition.{InputValueDefinition}
use Rattle.graphql_reader.specs.declared.type_system.TypeBody.{TypeBody}
use Rattle.graphql_reader.specs.declared.type_system.TypeBody.TheVariants as b
use Rattle.graphql_reader.specs.declared.type_system.TypeSystemDefinition.{TypeSystemDefinition}
use Rattle.graphql_reader.specs.declared.type_system.TypeSystemDefinition.TheVariants as d
use Rattle.language_types.specs.Types.{shape}
use Rattle.sdl_directives.specs.Judged.{applied_name}
use Rattle.sdl_directives.specs.Sites.{Applied, SiteValue, definition_sites}
use Rattle.sdl_directive_circles.specs.declared.names.NameOf.{NameOf}
use Rattle.sdl_directive_circles.specs.declared.names.NameOf.TheVariants as n

-- the name of a directive or of a type
abbrev pub Name : Type 0
Name = NameOf (List ℕ)

abbrev pub name_value : NameOf (Bor (List ℕ)) → Name
name_value (n.Directive x) = n.Directive x.now
name_value (n.Type x) = n.Type x.now

abbrev pub name_values : List (NameOf (Bor (List ℕ))) → List Name
name_values = map name_value

abbrev pub directive_name : DirectiveDefinition → Name
directive_name x = n.Directive x.name.item.now

-- what is defined or extended; a schema has no name
abbrev pub defined_name : TypeSystemDefinition → Option Name
defined_name (d.Schema x) = None
defined_name (d.Type x) = Some (n.Type x.item.name.item.now)
defined_name (d.Directive x) = Some (directive_name x.item)

-- the directive that stands there
abbrev pub directive_used : Applied → List Name
directive_used x = n.Directive (applied_name x) ∷ []

-- those that stand together
abbrev pub directives_used : SiteValue → List Name
directives_used s = flat_map directive_used s.directives

-- the type of an argument or of a field of an input object, whatever its modifiers are
abbrev pub type_used : InputValueDefinition → List Name
type_used a = n.Type (shape a.value_type.item).name ∷ []

-- the fields of an input object
abbrev pub input_fields : TypeBody → List InputValueDefinition
input_fields (b.InputObject fs) = fs.items
input_fields _ = []

-- the same, or the arguments of a directive
abbrev pub input_values : TypeSystemDefinition → List InputValueDefinition
input_values (d.Schema x) = []
input_values (d.Type x) = input_fields x.item.body
input_values (d.Directive x) = x.item.arguments.items

-- the names to which a definition or an extension refers
abbrev pub uses_of : TypeSystemDefinition → List Name
uses_of x = flat_map directives_used (definition_sites x) ++ flat_map type_used (input_values x)

-- a definition or an extension of the first name refers to the second
abbrev pub RefersTo : List TypeSystemDefinition → Name → Name → Type 0
RefersTo document a b = (x : TypeSystemDefinition) × Contains document x × (defined_name x ≡ Some a) × Contains (uses_of x) b
