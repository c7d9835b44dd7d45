-- Locations of directives (section 3.13).
use Rattle.std.specs.Prelude.{ℕ, List, Bool, codes}
use Rattle.std.specs.List.{list_any}
use Rattle.std.specs.Str.{bytes_eq}
use Rattle.graphql_reader.specs.declared.type_system.DirectivePlace.{DirectivePlace}
use Rattle.graphql_reader.specs.declared.type_system.DirectivePlace.TheVariants as l
use Rattle.graphql_reader.specs.declared.type_system.TypeBody.{TypeBody}
use Rattle.graphql_reader.specs.declared.type_system.TypeBody.TheVariants as b
use Rattle.language_types.specs.Position.{Placed}

-- the name of a location, in lower case with spaces between the words
abbrev pub location_words : DirectivePlace → List ℕ
location_words l.Query = codes "query"
location_words l.Mutation = codes "mutation"
location_words l.Subscription = codes "subscription"
location_words l.Field = codes "field"
location_words l.FragmentDefinition = codes "fragment definition"
location_words l.FragmentSpread = codes "fragment spread"
location_words l.InlineFragment = codes "inline fragment"
location_words l.VariableDefinition = codes "variable definition"
location_words l.Schema = codes "schema"
location_words l.Scalar = codes "scalar"
location_words l.Object = codes "object"
location_words l.FieldDefinition = codes "field definition"
location_words l.ArgumentDefinition = codes "argument definition"
location_words l.Interface = codes "interface"
location_words l.Union = codes "union"
location_words l.Enum = codes "enum"
location_words l.EnumValue = codes "enum value"
location_words l.InputObject = codes "input object"
location_words l.InputFieldDefinition = codes "input field definition"

-- where the directives of a type stand
abbrev pub body_location : TypeBody → DirectivePlace
body_location b.Scalar = l.Scalar
body_location (b.Object fs) = l.Object
body_location (b.Interface fs) = l.Interface
body_location (b.Union ns) = l.Union
body_location (b.Enum vs) = l.Enum
body_location (b.InputObject fs) = l.InputObject

-- locations are one if their names are
abbrev pub is_one_location : DirectivePlace → DirectivePlace → Bool
is_one_location one other = bytes_eq (location_words one) (location_words other)

-- a location is one of these
abbrev pub is_listed : DirectivePlace → List (Placed DirectivePlace) → Bool
is_listed location locations = list_any (λ x. is_one_location x.item location) locations
