-- What a walk looks up in a schema.
use Rattle.std.specs.Prelude.{ℕ, List, Option, Some, option_and_then, find, string_bytes}
use Rattle.std.specs.Option.{option_map}
use Rattle.std.specs.Str.{bytes_eq}
use Rattle.language_types.specs.Types.{TypeShape, shape, name_of, non_null_named}
use Rattle.language.specs.declared.tree.OperationType.{OperationType}
use Rattle.language.specs.declared.tree.OperationType.TheVariants as kind
use Rattle.meta.specs.declared.kinds.MetaTypeOf.{MetaTypeOf}
use Rattle.meta.specs.declared.fields.Field.{Field}
use Rattle.meta.specs.declared.arguments.Argument.{Argument}
use Rattle.meta.specs.Kinds.{name_of_meta, field_named, input_field_named}
use Rattle.schema.specs.Catalog.{Catalog, type_in, directive_in, root_type}

module _ {S C : Type 0} where
  -- the type that a written type names
  abbrev pub named_type : Catalog S C → Option TypeShape → Option (MetaTypeOf S C)
  named_type schema literal = option_and_then (λ l. type_in l.name schema) literal

  -- as a type that is never null
  abbrev pub root_literal : Catalog S C → OperationType → Option TypeShape
  root_literal schema k = option_map non_null_named (option_and_then name_of_meta (root_type schema k))

  -- the first field of the name, of a parent type
  abbrev pub field_of : Option (MetaTypeOf S C) → List ℕ → Option (Field S)
  field_of parent name = option_and_then (field_named name) parent

  -- the type of that field
  abbrev pub field_literal : Option (MetaTypeOf S C) → List ℕ → Option TypeShape
  field_literal parent name = option_map (λ f. shape f.field_type) (field_of parent name)

  -- the arguments of that field, where it has a list of them
  abbrev pub field_arguments : Option (MetaTypeOf S C) → List ℕ → Option (List (Argument S))
  field_arguments parent name =
      option_and_then (λ f. option_map (λ v. v.items) f.arguments) (field_of parent name)

  -- the arguments of the directive of the name
  abbrev pub directive_arguments : Catalog S C → List ℕ → Option (List (Argument S))
  directive_arguments schema name = option_map (λ d. d.arguments.items) (directive_in name schema)

  -- the type of the input field of the key, where the type has a name, no list around it, and such a field
  abbrev pub input_field_literal : Catalog S C → Option TypeShape → List ℕ → Option TypeShape
  input_field_literal schema literal key =
      option_map (λ f. shape f.arg_type)
      (option_and_then (input_field_named key) (option_and_then (λ n. type_in n schema) (option_and_then name_of literal)))

-- the type of the first argument of the name
abbrev pub argument_literal : {S : Type 0} → Option (List (Argument S)) → List ℕ → Option TypeShape
argument_literal arguments name =
    option_map (λ a. shape a.arg_type) (option_and_then (find (λ a. bytes_eq (string_bytes a.name) name)) arguments)
