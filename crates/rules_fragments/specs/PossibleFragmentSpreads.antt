-- Spreads of fragments where no object of their type is possible (section 5.5.2.3).
use Rattle.std.specs.Prelude.{◌≡◌, true, ℕ, List, [], ◌∷◌, ◌++◌, Bool, false, ◌||◌, Option, Some, None, option_and_then}
use Rattle.std.specs.Prelude.{if◌then◌else◌, map, string_bytes, codes}
use Rattle.std.specs.Option.{option_map_or, unwrap_or}
use Rattle.std.specs.Str.{bytes_eq}
use Rattle.language_types.specs.declared.position.SourcePosition.{SourcePosition}
use Rattle.language.specs.declared.tree.Definition.{Definition}
use Rattle.language.specs.declared.tree.Definition.TheVariants as definition
use Rattle.language.specs.declared.tree.InlineFragment.{InlineFragment}
use Rattle.meta.specs.Kinds.{name_of_meta}
use Rattle.meta.specs.declared.kinds.MetaTypeOf.{MetaTypeOf}
use Rattle.meta.specs.declared.kinds.MetaTypeOf.TheVariants as m
use Rattle.schema.specs.Catalog.{Catalog, type_in}
use Rattle.schema.specs.Possible.{do_overlap, is_among}
use Rattle.walk.specs.ContextState.{DocumentScope}
use Rattle.walk.specs.ErrorValue.{ErrorValue}
use Rattle.events.specs.Node.{Node, fragment_spread, inline_fragment}
use Rattle.events.specs.Occurrence.{Occurrence}

-- for each name the type of a fragment, where it is known
abbrev pub TypesByName : Type 0 → Type 0 → Type 0
TypesByName S C = List ℕ → Option (MetaTypeOf S C)

-- how a message begins, for a fragment of this name or for an inline one
abbrev pub impossible_words : Option (List ℕ) → List ℕ
impossible_words None = codes "Fragment cannot be spread here as objects of type \""
impossible_words (Some name) = (codes "Fragment \"" ++ name) ++ codes "\" cannot be spread here as objects of type \""

abbrev pub impossible_message : Option (List ℕ) → List ℕ → List ℕ → List ℕ
impossible_message name parent t = (((impossible_words name ++ parent) ++ codes "\" can never be of type \"") ++ t) ++ codes "\""

module _ {S C : Type 0} where
  -- the name of a type; each type of a schema has one
  abbrev pub type_name : MetaTypeOf S C → List ℕ
  type_name t = unwrap_or (name_of_meta t) []

  -- no fragment is known
  abbrev pub no_conditions : TypesByName S C
  no_conditions name = None

  -- with this type for the name, if there is one
  abbrev pub with_type : TypesByName S C → List ℕ → Option (MetaTypeOf S C) → TypesByName S C
  with_type types name None = types
  with_type types name (Some t) = λ n. if bytes_eq name n then Some t else types n

  -- with the type of a fragment's condition, where it is known
  abbrev pub with_definition : Catalog S C → TypesByName S C → Definition S → TypesByName S C
  with_definition schema types (definition.Operation o) = types
  with_definition schema types (definition.Fragment f) =
      with_type types f.item.name.item.now (type_in f.item.type_condition.item.now schema)

  -- of several fragments of a name the last whose condition is known
  abbrev pub conditions_in : Catalog S C → TypesByName S C → List (Definition S) → TypesByName S C
  conditions_in schema types [] = types
  conditions_in schema types (d ∷ rest) = conditions_in schema (with_definition schema types d) rest

  -- the types of all fragments of a document
  abbrev pub conditions : DocumentScope S C → List (Definition S) → TypesByName S C
  conditions scope doc = conditions_in scope.schema no_conditions doc

  -- the type of an inline fragment, where it has a condition and that is known
  abbrev pub inline_type : Catalog S C → InlineFragment S → Option (MetaTypeOf S C)
  inline_type schema i = option_and_then (λ c. type_in c.item.now schema) i.type_condition

  -- an interface that lists the type of this name
  abbrev pub is_interface_below : Option (List ℕ) → MetaTypeOf S C → Bool
  is_interface_below parent (m.Interface x) = option_map_or (is_among (map string_bytes x.interface_names.items)) parent false
  is_interface_below parent _ = false

  -- a fragment of type t may stand where the type around it is parent: t is an interface that lists it, or they overlap
  abbrev pub may_stand : Catalog S C → MetaTypeOf S C → MetaTypeOf S C → Bool
  may_stand schema parent t = is_interface_below (name_of_meta parent) t || do_overlap schema.types parent t

  -- of a fragment with this name, or an inline one, at its place: both types are known, and it may not stand there
  abbrev pub impossible : Catalog S C → Option (MetaTypeOf S C) → Option (MetaTypeOf S C) → Option (List ℕ)
      → SourcePosition → List ErrorValue
  impossible schema None t name place = []
  impossible schema (Some parent) None name place = []
  impossible schema (Some parent) (Some t) name place =
      if may_stand schema parent t then [] else record
      { locations = place ∷ []; message = impossible_message name (type_name parent) (type_name t) } ∷ []

  -- at a spread by the type of its fragment, at an inline fragment by its condition
  abbrev pub impossible_at : Catalog S C → TypesByName S C → Option (MetaTypeOf S C) → Node S → List ErrorValue
  impossible_at schema types parent (fragment_spread s) =
      impossible schema parent (types s.item.name.item.now) (Some s.item.name.item.now) s.span.start
  impossible_at schema types parent (inline_fragment i) = impossible schema parent (inline_type schema i.item) None i.span.start
  impossible_at schema types parent _ = []

  -- at a spread and at an inline fragment with a condition: it may not stand in the selection set around it
  abbrev pub impossible_spreads : DocumentScope S C → TypesByName S C → Occurrence S C → List ErrorValue
  impossible_spreads scope types o = impossible_at scope.schema types o.types.parent o.node

  -- a fragment of the second type may stand where the first is around it, if both are known
  abbrev pub IsPossible : Catalog S C → Option (MetaTypeOf S C) → Option (MetaTypeOf S C) → Type 0
  IsPossible schema (Some parent) (Some t) = may_stand schema parent t ≡ true
  IsPossible schema _ _ = Unit {0}

  -- at a node: the fragment of a spread, and an inline fragment
  abbrev pub IsPossibleAt : Catalog S C → TypesByName S C → Option (MetaTypeOf S C) → Node S → Type 0
  IsPossibleAt schema types parent (fragment_spread s) = IsPossible schema parent (types s.item.name.item.now)
  IsPossibleAt schema types parent (inline_fragment i) = IsPossible schema parent (inline_type schema i.item)
  IsPossibleAt schema types parent _ = Unit {0}
