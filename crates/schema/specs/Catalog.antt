-- What callers see of a schema: lists, and no maps (section 3.3).
use Rattle.std.specs.Prelude.{◌≡◌, ℕ, List, true, Option, Some, String, find, option_and_then, option_map, string_bytes}
use Rattle.std.specs.List.{list_all}
use Rattle.std.specs.declared.alloc.Global.{Global}
use Rattle.language.specs.declared.tree.OperationType.{OperationType}
use Rattle.language.specs.declared.tree.OperationType.TheVariants as kind
use Rattle.meta.specs.declared.kinds.MetaTypeOf.{MetaTypeOf}
use Rattle.schema_validation.specs.declared.directives.DirectiveType.{DirectiveType}
use Rattle.schema_validation.specs.Accepted.{Roots, IsAccepted, is_named, is_input_listed}
use Rattle.schema_validation.specs.Directives.{directive_name, directive_inputs}
use Rattle.schema_validation.specs.Named.{is_called, are_distinct}
use Rattle.schema.specs.declared.model.dialect.Dialect.{Dialect}

-- The types in their order, the names of the roots, the directives in their order, the dialect and the description. The
-- types are accepted, each argument of a directive has an input type, and no two directives have the same name.
pub record Catalog (S C : Type 0) : Type 0 where
  pub description : Option (List ℕ)
  pub types : List (MetaTypeOf S C)
  pub roots : Roots
  pub directives : List (DirectiveType S)
  pub dialect : Dialect
  pub accepted : IsAccepted roots types
  pub directive_inputs_input : list_all (is_input_listed types) (directive_inputs directives) ≡ true
  pub directives_distinct : are_distinct directive_name directives ≡ true

-- the roots whose names are kept as these texts
abbrev pub kept_roots : String Global → Option (String Global) → Option (String Global) → Roots
kept_roots query mutation subscription =
    record {
      query = string_bytes query;
      mutation = option_map string_bytes mutation;
      subscription = option_map string_bytes subscription;
    }

module _ {S C : Type 0} where
  -- the type of the name
  abbrev pub type_in : List ℕ → Catalog S C → Option (MetaTypeOf S C)
  type_in name c = find (is_named name) c.types

  -- the root of the name, if there is one
  abbrev pub root_in : Option (List ℕ) → Catalog S C → Option (MetaTypeOf S C)
  root_in name c = option_and_then (λ n. type_in n c) name

  -- the root of the operations of a kind, where the schema has one
  abbrev pub root_type : Catalog S C → OperationType → Option (MetaTypeOf S C)
  root_type c kind.Query = root_in (Some c.roots.query) c
  root_type c kind.Mutation = root_in c.roots.mutation c
  root_type c kind.Subscription = root_in c.roots.subscription c

  -- the directive of the name
  abbrev pub directive_in : List ℕ → Catalog S C → Option (DirectiveType S)
  directive_in name c = find (is_called directive_name name) c.directives
