-- What changes leave of a schema, and which directives are refused (section 3.13).
use Rattle.std.specs.Prelude.{◌≡◌, ⊤, ℕ, List, [], ◌∷◌, false, true, Contains, map, string_bytes, if◌then◌else◌}
use Rattle.std.specs.List.{list_all}
use Rattle.schema_validation.specs.declared.error.SchemaError.{SchemaError}
use Rattle.schema_validation.specs.declared.error.SchemaError.TheVariants as e
use Rattle.meta.specs.declared.arguments.Argument.{Argument}
use Rattle.meta.specs.declared.kinds.MetaTypeOf.{MetaTypeOf}
use Rattle.schema_validation.specs.declared.directives.DirectiveType.{DirectiveType}
use Rattle.schema_validation.specs.Accepted.{is_listed, is_input_listed}
use Rattle.schema_validation.specs.Directives.{directive_name}
use Rattle.schema_validation.specs.Named.{is_called}
use Rattle.schema_validation.specs.Names.{argument_type}

-- the names of the types of arguments
abbrev pub argument_types : {S : Type 0} → List (Argument S) → List (List ℕ)
argument_types arguments = map argument_type arguments

-- the names of the types of the arguments of a directive
abbrev pub directive_types : {S : Type 0} → DirectiveType S → List (List ℕ)
directive_types d = argument_types d.arguments.items

-- the directive in the place of the one of its name, or else at the end
abbrev pub with_directive : {S : Type 0} → DirectiveType S → List (DirectiveType S) → List (DirectiveType S)
with_directive d [] = d ∷ []
with_directive d (x ∷ xs) = if is_called directive_name (string_bytes d.name) x then d ∷ xs else x ∷ with_directive d xs

module _ {S C : Type 0} where
  -- Each name is that of an input type of the list.
  abbrev pub AreInputTypes : List (MetaTypeOf S C) → List (List ℕ) → Type 0
  AreInputTypes ts ns = list_all (is_input_listed ts) ns ≡ true

  -- The refusal applies to a directive whose arguments have these types, with the name that it carries.
  abbrev pub IsTrueOfArguments : List (MetaTypeOf S C) → List (List ℕ) → SchemaError → Type 0
  IsTrueOfArguments ts ns e.OutOfMemory = ⊤
  IsTrueOfArguments ts ns (e.UnknownType n) = Contains ns (string_bytes n) × (is_listed ts (string_bytes n) ≡ false)
  IsTrueOfArguments ts ns (e.NotInputType n) =
      Contains ns (string_bytes n) × (is_listed ts (string_bytes n) ≡ true)
      × (is_input_listed ts (string_bytes n) ≡ false)
  IsTrueOfArguments ts ns _ = ⊥
