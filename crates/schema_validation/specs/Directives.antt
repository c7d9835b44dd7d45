-- What a directive says.
use Rattle.std.specs.Prelude.{ℕ, List, Option, Some, map, string_bytes}
use Rattle.std.specs.List.{flat_map}
use Rattle.schema_validation.specs.declared.directives.DirectiveType.{DirectiveType}
use Rattle.schema_validation.specs.Names.{argument_type}

module _ {S : Type 0} where
  -- each directive has a name
  abbrev pub directive_name : DirectiveType S → Option (List ℕ)
  directive_name d = Some (string_bytes d.name)

  -- the types of the arguments of directives
  abbrev pub directive_inputs : List (DirectiveType S) → List (List ℕ)
  directive_inputs ds = flat_map (λ d. map argument_type d.arguments.items) ds
