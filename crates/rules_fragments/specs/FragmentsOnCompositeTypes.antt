-- Fragments on types that have no fields (section 5.5.1.3).
use Rattle.std.specs.Prelude.{◌≡◌, true, ℕ, List, [], ◌∷◌, ◌++◌, Option, Some, None, if◌then◌else◌, codes}
use Rattle.std.specs.Option.{option_map_or}
use Rattle.meta.specs.Kinds.{is_composite_meta}
use Rattle.meta.specs.declared.kinds.MetaTypeOf.{MetaTypeOf}
use Rattle.schema.specs.Catalog.{Catalog, type_in}
use Rattle.walk.specs.ContextState.{DocumentScope}
use Rattle.walk.specs.ErrorValue.{ErrorValue}
use Rattle.events.specs.Node.{Node, Name, fragment_definition, inline_fragment}
use Rattle.events.specs.Occurrence.{Occurrence}

-- of a fragment of this name, where juniper leaves out the last quote, or of an inline one
abbrev pub not_composite_message : Option (List ℕ) → List ℕ → List ℕ
not_composite_message (Some name) t = ((codes "Fragment \"" ++ name) ++ codes "\" cannot condition non composite type \"") ++ t
not_composite_message None t = (codes "Fragment cannot condition on non composite type \"" ++ t) ++ codes "\""

module _ {S C : Type 0} where
  -- a condition whose type is known: it is reported if the type has no fields
  abbrev pub not_composite : Option (MetaTypeOf S C) → Option (List ℕ) → Name → List ErrorValue
  not_composite None name condition = []
  not_composite (Some t) name condition =
      if is_composite_meta t then [] else record
      { locations = condition.span.start ∷ []; message = not_composite_message name condition.item.now } ∷ []

  -- the condition of a fragment with this name, or of an inline one: it is the name of a type, and that is not
  -- composite
  abbrev pub on_other_type : Catalog S C → Option (List ℕ) → Option Name → List ErrorValue
  on_other_type schema name None = []
  on_other_type schema name (Some condition) = not_composite (type_in condition.item.now schema) name condition

  -- at a node: a fragment or an inline fragment
  abbrev pub on_other_type_at : Catalog S C → Node S → List ErrorValue
  on_other_type_at schema (fragment_definition f) = on_other_type schema (Some f.item.name.item.now) (Some f.item.type_condition)
  on_other_type_at schema (inline_fragment i) = on_other_type schema None i.item.type_condition
  on_other_type_at schema _ = []

  -- at a fragment and at an inline fragment: its condition, if it is a type without fields
  abbrev pub fragments_on_other_types : DocumentScope S C → Occurrence S C → List ErrorValue
  fragments_on_other_types scope o = on_other_type_at scope.schema o.node

  -- the type of the name, if the schema has one, is composite
  abbrev pub IsComposite : Catalog S C → List ℕ → Type 0
  IsComposite schema name = option_map_or is_composite_meta (type_in name schema) true ≡ true

  -- a type condition, if there is one
  abbrev pub IsCompositeCondition : Catalog S C → Option Name → Type 0
  IsCompositeCondition schema None = Unit {0}
  IsCompositeCondition schema (Some condition) = IsComposite schema condition.item.now

  -- at a node: the condition of a fragment
  abbrev pub IsOnComposite : Catalog S C → Node S → Type 0
  IsOnComposite schema (fragment_definition f) = IsComposite schema f.item.type_condition.item.now
  IsOnComposite schema (inline_fragment i) = IsCompositeCondition schema i.item.type_condition
  IsOnComposite schema _ = Unit {0}
