-- Where a type system document has the name of a coordinate (section 3).
use denote.Ref.{Bor}
use Rattle.std.specs.Prelude.{ℕ, List, [], ◌∷◌, Option, Some, None, if◌then◌else◌}
use Rattle.std.specs.Option.{option_or}
use Rattle.std.specs.Str.{bytes_eq}
use Rattle.graphql_reader.specs.declared.type_system.DirectiveDefinition.{DirectiveDefinition}
use Rattle.graphql_reader.specs.declared.type_system.EnumValueDefinition.{EnumValueDefinition}
use Rattle.graphql_reader.specs.declared.type_system.FieldDefinition.{FieldDefinition}
use Rattle.graphql_reader.specs.declared.type_system.InputValueDefinition.{InputValueDefinition}
use Rattle.graphql_reader.specs.declared.type_system.TypeBody.{TypeBody}
use Rattle.graphql_reader.specs.declared.type_system.TypeBody.TheVariants as b
use Rattle.graphql_reader.specs.declared.type_system.TypeDefinition.{TypeDefinition}
use Rattle.graphql_reader.specs.declared.type_system.TypeSystemDefinition.{TypeSystemDefinition}
use Rattle.graphql_reader.specs.declared.type_system.TypeSystemDefinition.TheVariants as d
use Rattle.language_types.specs.declared.position.SourcePosition.{SourcePosition}
use Rattle.language_types.specs.Position.{Placed}
use Rattle.type_system_report.specs.declared.fault.CoordinateOf.TheVariants as c
use Rattle.type_system_report.specs.Fault.{CoordinateValue}

abbrev pub Place : Type 0
Place = Option SourcePosition

-- a name of the text
abbrev pub Written : Type 0
Written = Placed (Bor (List ℕ))

-- what the first item has that has something
abbrev pub first_in : {A B : Type 0} → (A → Option B) → List A → Option B
first_in f [] = None
first_in f (x ∷ xs) = option_or (f x) (first_in f xs)

-- the place of a name, if it is this one
abbrev pub name_place : List ℕ → Written → Place
name_place n w = if bytes_eq w.item.now n then Some w.span.start else None

-- the same of an argument or an input field, of a field, and of a value
abbrev pub parameter_place : List ℕ → InputValueDefinition → Place
parameter_place n a = name_place n a.name

abbrev pub named_field_place : List ℕ → FieldDefinition → Place
named_field_place n f = name_place n f.name

abbrev pub named_value_place : List ℕ → EnumValueDefinition → Place
named_value_place n v = name_place n v.name

-- that of an argument of a field, if the field has this name
abbrev pub own_argument_place : List ℕ → List ℕ → FieldDefinition → Place
own_argument_place field n f = if bytes_eq f.name.item.now field then first_in (parameter_place n) f.arguments.items else None

-- those of a field, of an argument of a field, and of a value among the members of a type
abbrev pub field_place : List ℕ → TypeBody → Place
field_place n (b.Object fs) = first_in (named_field_place n) fs.items
field_place n (b.Interface fs) = first_in (named_field_place n) fs.items
field_place n (b.InputObject fs) = first_in (parameter_place n) fs.items
field_place n _ = None

abbrev pub argument_place : List ℕ → List ℕ → TypeBody → Place
argument_place field n (b.Object fs) = first_in (own_argument_place field n) fs.items
argument_place field n (b.Interface fs) = first_in (own_argument_place field n) fs.items
argument_place field n _ = None

abbrev pub enum_value_place : List ℕ → TypeBody → Place
enum_value_place n (b.Enum vs) = first_in (named_value_place n) vs.items
enum_value_place n _ = None

-- that of the member at a coordinate, if these are the members of its type
abbrev pub member_place : CoordinateValue → TypeBody → Place
member_place (c.Field of n) body = field_place n body
member_place (c.Argument of field n) body = argument_place field n body
member_place (c.EnumValue of n) body = enum_value_place n body
member_place _ body = None

-- that of a coordinate in a definition or extension of a type, and in that of a directive
abbrev pub type_place : CoordinateValue → TypeDefinition → Place
type_place (c.Type n) t = name_place n t.name
type_place (c.Field of n) t = if bytes_eq t.name.item.now of then field_place n t.body else None
type_place (c.Argument of field n) t = if bytes_eq t.name.item.now of then argument_place field n t.body else None
type_place (c.EnumValue of n) t = if bytes_eq t.name.item.now of then enum_value_place n t.body else None
type_place _ t = None

abbrev pub directive_place : CoordinateValue → DirectiveDefinition → Place
directive_place (c.Directive n) x = name_place n x.name
directive_place (c.DirectiveArgument of n) x = if bytes_eq x.name.item.now of then first_in (parameter_place n) x.arguments.items else None
directive_place _ x = None

abbrev pub place_within : CoordinateValue → TypeSystemDefinition → Place
place_within at (d.Schema x) = None
place_within at (d.Type x) = type_place at x.item
place_within at (d.Directive x) = directive_place at x.item

-- that of a type in its definition
abbrev pub definition_place : List ℕ → TypeSystemDefinition → Place
definition_place n (d.Type x) = if x.item.is_extension then None else name_place n x.item.name
definition_place n _ = None

-- that of a coordinate in the first that has one; of a type, in its definition before any extension
abbrev pub place_in : List TypeSystemDefinition → CoordinateValue → Place
place_in document (c.Type n) = option_or (first_in (definition_place n) document) (first_in (place_within (c.Type n)) document)
place_in document at = first_in (place_within at) document
