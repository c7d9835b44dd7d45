-- Which lists of types make a schema, and when a refusal applies to a list (sections 3.3 and 3.6 to 3.10).
use Rattle.std.specs.Prelude.{◌≡◌, ⊤, ℕ, ◌≤◌, List, [], ◌∷◌, ◌++◌, Bool, true, false, ◌&&◌, Option, Some, None, codes}
use Rattle.std.specs.Prelude.{Contains, count_by, string_bytes, if◌then◌else◌}
use Rattle.std.specs.List.{list_any, list_all}
use Rattle.std.specs.Option.{option_to_list}
use Rattle.std.specs.Str.{bytes_eq}
use Rattle.schema_validation.specs.declared.error.SchemaError.{SchemaError}
use Rattle.schema_validation.specs.declared.error.SchemaError.TheVariants as e
use Rattle.meta.specs.declared.kinds.MetaTypeOf.{MetaTypeOf}
use Rattle.meta.specs.Kinds.{name_of_meta, is_object_meta, is_input_meta}
use Rattle.schema_validation.specs.Named.{is_called, is_any_called, are_named, are_distinct}
use Rattle.schema_validation.specs.Names.{all_names, all_inputs, all_members}

-- the name of a root, unless it is the name that means no root
abbrev pub root_of : List ℕ → List ℕ → Option (List ℕ)
root_of none name = if bytes_eq name none then None else Some name

abbrev pub mutation_of : List ℕ → Option (List ℕ)
mutation_of = root_of (codes "_EmptyMutation")

abbrev pub subscription_of : List ℕ → Option (List ℕ)
subscription_of = root_of (codes "_EmptySubscription")

-- The names of the three roots of a schema.
pub record Roots : Type 0 where
  pub query : List ℕ
  pub mutation : Option (List ℕ)
  pub subscription : Option (List ℕ)

-- the roots that these three names ask for
abbrev pub roots_of : List ℕ → List ℕ → List ℕ → Roots
roots_of query mutation subscription =
    record { query = query; mutation = mutation_of mutation; subscription = subscription_of subscription }

-- those of the roots that there are
abbrev pub root_names : Roots → List (List ℕ)
root_names r = r.query ∷ (option_to_list r.mutation ++ option_to_list r.subscription)

module _ {S C : Type 0} where
  -- the type has this name
  abbrev pub is_named : List ℕ → MetaTypeOf S C → Bool
  is_named = is_called name_of_meta

  -- a type of this name is listed
  abbrev pub is_listed : List (MetaTypeOf S C) → List ℕ → Bool
  is_listed = is_any_called name_of_meta

  -- an object of this name is listed
  abbrev pub is_object_listed : List (MetaTypeOf S C) → List ℕ → Bool
  is_object_listed ts n = list_any (λ t. is_named n t && is_object_meta t) ts

  -- an input type of this name is listed
  abbrev pub is_input_listed : List (MetaTypeOf S C) → List ℕ → Bool
  is_input_listed ts n = list_any (λ t. is_named n t && is_input_meta t) ts

  -- The list makes a schema with these roots.
  pub record IsAccepted (roots : Roots) (ts : List (MetaTypeOf S C)) : Type 0 where
    pub named : are_named name_of_meta ts ≡ true
    pub distinct : are_distinct name_of_meta ts ≡ true
    pub roots_listed : list_all (is_listed ts) (root_names roots) ≡ true
    pub query_object : is_object_listed ts roots.query ≡ true
    pub names_listed : list_all (is_listed ts) (all_names ts) ≡ true
    pub members_objects : list_all (is_object_listed ts) (all_members ts) ≡ true
    pub inputs_input : list_all (is_input_listed ts) (all_inputs ts) ≡ true

  -- The refusal applies to the list, with the name that it carries.
  abbrev pub IsTrueRefusal : Roots → List (MetaTypeOf S C) → SchemaError → Type 0
  IsTrueRefusal roots ts e.OutOfMemory = ⊤
  IsTrueRefusal roots ts (e.MissingRoot n) = Contains (root_names roots) (string_bytes n) × (is_listed ts (string_bytes n) ≡ false)
  IsTrueRefusal roots ts e.QueryNotObject = (is_listed ts roots.query ≡ true) × (is_object_listed ts roots.query ≡ false)
  IsTrueRefusal roots ts e.UnnamedType = are_named name_of_meta ts ≡ false
  IsTrueRefusal roots ts (e.RepeatedType n) = 2 ≤ count_by (is_named (string_bytes n)) ts
  IsTrueRefusal roots ts (e.UnknownType n) = Contains (all_names ts) (string_bytes n) × (is_listed ts (string_bytes n) ≡ false)
  IsTrueRefusal roots ts (e.UnionMemberNotObject n) =
      Contains (all_members ts) (string_bytes n) × (is_listed ts (string_bytes n) ≡ true)
      × (is_object_listed ts (string_bytes n) ≡ false)
  IsTrueRefusal roots ts (e.NotInputType n) =
      Contains (all_inputs ts) (string_bytes n) × (is_listed ts (string_bytes n) ≡ true)
      × (is_input_listed ts (string_bytes n) ≡ false)
