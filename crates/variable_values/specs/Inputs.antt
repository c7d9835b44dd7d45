-- The types of variables (section 5.8.2).
use Rattle.std.specs.Prelude.{◌≡◌, ℕ, List, [], Bool, true, false, Option, Some, None}
use Rattle.std.specs.List.{list_all}
use Rattle.std.specs.Option.{option_map_or}
use Rattle.language_types.specs.declared.position.Span.{Span}
use Rattle.language_types.specs.declared.position.Spanning.{Spanning}
use Rattle.language.specs.declared.tree.Operation.{Operation}
use Rattle.language.specs.declared.tree.VariableDefinitions.{VariableDefinitions}
use Rattle.language_types.specs.Types.{shape}
use Rattle.meta.specs.Kinds.{is_input_meta}
use Rattle.schema.specs.Catalog.{Catalog, type_in}
use Rattle.events.specs.Node.{VariableEntry}

-- the schema has a type of the name, and it is an input type
abbrev pub is_input_in : {S C : Type 0} → Catalog S C → List ℕ → Bool
is_input_in schema name = option_map_or is_input_meta (type_in name schema) false

-- the definitions in a list; empty where there is no list
abbrev pub definitions_in : {S : Type 0} → Option (Spanning (VariableDefinitions S) Span) → List (VariableEntry S)
definitions_in None = []
definitions_in (Some ds) = ds.item.items.items

-- the definitions of the variables of an operation, with their names
abbrev pub definitions_of : {S : Type 0} → Operation S → List (VariableEntry S)
definitions_of o = definitions_in o.variable_definitions

-- the type of a variable is a known input type
abbrev pub has_input_type : {S C : Type 0} → Catalog S C → VariableEntry S → Bool
has_input_type schema d = is_input_in schema (shape d.1.var_type.item).name

-- the type of each variable of the operation is a known input type
abbrev pub HasInputTypes : {S C : Type 0} → Catalog S C → Operation S → Type 0
HasInputTypes schema o = list_all (has_input_type schema) (definitions_of o) ≡ true
