-- Variables of types that no input has (section 5.8.2).
use Rattle.std.specs.Prelude.{◌≡◌, ℕ, List, [], ◌∷◌, ◌++◌, true, Option, Some, None, if◌then◌else◌, codes}
use Rattle.std.specs.Option.{option_map_or}
use Rattle.language_types.specs.Types.{TypeShape, printed, shape}
use Rattle.meta.specs.Kinds.{is_input_meta}
use Rattle.meta.specs.declared.kinds.MetaTypeOf.{MetaTypeOf}
use Rattle.schema.specs.Catalog.{Catalog, type_in}
use Rattle.walk.specs.ContextState.{DocumentScope}
use Rattle.walk.specs.ErrorValue.{ErrorValue}
use Rattle.events.specs.Node.{Node, VariableEntry, variable_definition}
use Rattle.events.specs.Occurrence.{Occurrence}

-- the name of the variable, and its type as printed
abbrev pub non_input_message : List ℕ → TypeShape → List ℕ
non_input_message name t = (((codes "Variable \"" ++ name) ++ codes "\" cannot be of non-input type \"") ++ printed t) ++ codes "\""

module _ {S C : Type 0} where
  -- a variable of a type that is known
  abbrev pub not_input : Option (MetaTypeOf S C) → VariableEntry S → List ErrorValue
  not_input None v = []
  not_input (Some t) v =
      if is_input_meta t then [] else record {
        locations = v.1.var_type.span.start ∷ [];
        message = non_input_message v.0.item.now (shape v.1.var_type.item);
      } ∷ []

  -- a definition of a variable: the innermost name of its type is the name of a type, and that is no input type
  abbrev pub non_input : Catalog S C → VariableEntry S → List ErrorValue
  non_input schema v = not_input (type_in (shape v.1.var_type.item).name schema) v

  -- at a node: a definition of a variable
  abbrev pub non_input_at : Catalog S C → Node S → List ErrorValue
  non_input_at schema (variable_definition v) = non_input schema v
  non_input_at schema _ = []

  -- at a definition of a variable: it is reported if its type is no input type
  abbrev pub non_input_variables : DocumentScope S C → Occurrence S C → List ErrorValue
  non_input_variables scope o = non_input_at scope.schema o.node

  -- at a node: the innermost type of a variable is an input type, if the schema has a type of its name
  abbrev pub HasInputType : Catalog S C → Node S → Type 0
  HasInputType schema (variable_definition v) = option_map_or is_input_meta (type_in (shape v.1.var_type.item).name schema) true ≡ true
  HasInputType schema _ = Unit {0}
