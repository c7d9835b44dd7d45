-- The variables that operations define (section 5.8.5).
use Rattle.std.specs.Prelude.{ℕ, List, [], Option, None, Some, find, slice_get, if◌then◌else◌}
use Rattle.std.specs.List.{flat_map}
use Rattle.std.specs.Option.{option_map_or}
use Rattle.std.specs.Str.{bytes_eq}
use Rattle.language.specs.declared.tree.Definition.{Definition}
use Rattle.language.specs.declared.tree.Definition.TheVariants as definition
use Rattle.language.specs.declared.tree.VariableDefinitions.{VariableDefinitions}
use Rattle.fragment_reach.specs.Reach.{operation}
use Rattle.events.specs.Node.{Placed, VariableEntry}
use Rattle.operation_scopes.specs.Scopes.{same_scope, scope_of}

module _ {S : Type 0} where
  -- the variables of a list, if there is one
  abbrev pub written_variables : Option (Placed (VariableDefinitions S)) → List (VariableEntry S)
  written_variables None = []
  written_variables (Some list) = list.item.items.items

  -- those that an operation defines
  abbrev pub variables_in : Definition S → List (VariableEntry S)
  variables_in (definition.Operation o) = written_variables o.item.variable_definitions
  variables_in (definition.Fragment f) = []

  -- those of all operations of a name, in order
  abbrev pub variables_of : List (Definition S) → Option (List ℕ) → List (VariableEntry S)
  variables_of document name = flat_map (λ d. if same_scope (scope_of d) (operation name) then variables_in d else []) document

  -- the first definition of a variable
  abbrev pub first_of : List (VariableEntry S) → List ℕ → Option (VariableEntry S)
  first_of entries variable = find (λ d. bytes_eq d.0.item.now variable) entries

  -- what the definition at a place defines
  abbrev pub variables_at : List (Definition S) → ℕ → List (VariableEntry S)
  variables_at document place = option_map_or variables_in (slice_get document place) []
