-- The words of the places of directives.
use Rattle.std.specs.Prelude.{ℕ, List, codes}
use Rattle.schema_validation.specs.declared.directives.DirectiveLocation.{DirectiveLocation}
use Rattle.schema_validation.specs.declared.directives.DirectiveLocation.TheVariants as l

-- the name of a place where directives may stand
abbrev pub location_words : DirectiveLocation → List ℕ
location_words l.Query = codes "query"
location_words l.Mutation = codes "mutation"
location_words l.Subscription = codes "subscription"
location_words l.Field = codes "field"
location_words l.Scalar = codes "scalar"
location_words l.FragmentDefinition = codes "fragment definition"
location_words l.FieldDefinition = codes "field definition"
location_words l.VariableDefinition = codes "variable definition"
location_words l.FragmentSpread = codes "fragment spread"
location_words l.InlineFragment = codes "inline fragment"
location_words l.EnumValue = codes "enum value"
location_words l.Schema = codes "schema"
location_words l.Object = codes "object"
location_words l.ArgumentDefinition = codes "argument definition"
location_words l.Interface = codes "interface"
location_words l.Union = codes "union"
location_words l.Enum = codes "enum"
location_words l.InputObject = codes "input object"
location_words l.InputFieldDefinition = codes "input field definition"
