-- The types of a walk are those that the search takes.
use Rattle.std.proofs.Common.{◌≡◌, ℕ, List, Option, Some, None, true, false, refl, ap, sym, ◌∙◌, option_and_then}
use Rattle.std.specs.Option.{option_map, option_map_or}
use Rattle.std.specs.Str.{bytes_eq}
use Rattle.language_values.proofs.Members.{bytes_eq-same}
use Rattle.language_types.specs.Types.{shape, non_null_named}
use Rattle.language.specs.declared.tree.Definition.{Definition}
use Rattle.language.specs.declared.tree.Definition.TheVariants as definition
use Rattle.language.specs.declared.tree.Field.{Field}
use Rattle.language.specs.declared.tree.OperationType.{OperationType}
use Rattle.language.specs.declared.tree.OperationType.TheVariants as kind
use Rattle.meta.specs.declared.fields.Field as metadata
use Rattle.meta.specs.declared.kinds.MetaTypeOf.{MetaTypeOf}
use Rattle.meta.specs.Kinds.{name_of_meta}
use Rattle.schema_validation.specs.Accepted.{is_named}
use Rattle.schema.specs.Catalog.{Catalog, type_in, root_in, root_type}
use Rattle.schema_validation.proofs.Finds.{found-passes}
use Rattle.merge_field_pairs.specs.OwnFields.{entry_under, metadata_under, type_below}
use Rattle.merge_set_table.specs.Inside.{type_entered}
use Rattle.merge_graph.specs.Definitions.{type_round}
use Rattle.events.specs.Node.{Name, Placed}
use Rattle.events.specs.SchemaView.{named_type, field_literal, root_literal}
use Rattle.events.specs.Typing.{Typing, at_condition, at_field, at_operation, at_fragment}

module _ {S C : Type 0} (schema : Catalog S C) where
  -- a type that is found by a name has that name
  by_own_name : (name : List ℕ) (m : MetaTypeOf S C) (own : Option (List ℕ)) → option_map_or (λ n. bytes_eq n name) own false ≡ true
      → type_in name schema ≡ Some m → named_type schema (option_map non_null_named own) ≡ Some m
  by_own_name name m None h e = cc
  by_own_name name m (Some n) h e = ap (λ k. type_in k schema) (bytes_eq-same n name h) ∙ e

  found_again : (name : List ℕ) (r : Option (MetaTypeOf S C)) → r ≡ type_in name schema → named_type schema (option_map non_null_named (option_and_then name_of_meta r)) ≡ r
  found_again name None e = refl
  found_again name (Some m) e = by_own_name name m (name_of_meta m) (found-passes (is_named name) schema.types m e) (sym e)

  of_root : (name : Option (List ℕ)) → named_type schema (option_map non_null_named (option_and_then name_of_meta (root_in name schema))) ≡ root_in name schema
  of_root None = refl
  of_root (Some name) = found_again name (type_in name schema) refl

  meets_root : (k : OperationType) → named_type schema (root_literal schema k) ≡ root_type schema k
  meets_root kind.Query = of_root (Some schema.roots.query)
  meets_root kind.Mutation = of_root schema.roots.mutation
  meets_root kind.Subscription = of_root schema.roots.subscription

  -- at a definition
  abbrev pub at_definition : Typing S C → Definition S → Typing S C
  at_definition t (definition.Operation o) = at_operation schema t o.item
  at_definition t (definition.Fragment f) = at_fragment schema t f.item

  pub meets_definition : (t : Typing S C) (d : Definition S) → (at_definition t d).current ≡ type_round schema d
  meets_definition t (definition.Operation o) = meets_root o.item.operation_type
  meets_definition t (definition.Fragment f) = refl

  -- below a field
  of_field_type : (m : Option (metadata.Field S)) → named_type schema (option_map (λ f. shape f.field_type) m) ≡ option_and_then (λ f. type_in (shape f.field_type).name schema) m
  of_field_type None = refl
  of_field_type (Some f) = refl

  pub meets_field : (q : Option (MetaTypeOf S C)) (u : Typing S C) (f : Placed (Field S)) → u.parent ≡ q → (at_field schema u f.item).current ≡ type_below schema (entry_under q f)
  meets_field q u f e =
      ap (λ r. named_type schema (field_literal r f.item.name.item.now)) e ∙ of_field_type (metadata_under q f.item.name.item.now)

  -- in an inline fragment
  pub meets_inline : (q : Option (MetaTypeOf S C)) (u : Typing S C) (condition : Option Name) → u.current ≡ q
      → (at_condition schema u (option_map (λ c. c.item.now) condition)).current ≡ type_entered schema q condition
  meets_inline q u None e = e
  meets_inline q u (Some name) e = refl
