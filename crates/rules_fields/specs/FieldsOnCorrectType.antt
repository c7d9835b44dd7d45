-- Fields that the type around them does not have (sections 5.3.1 and 5.2.3.1).
use Rattle.std.specs.Prelude.{◌≡◌, ℕ, List, [], ◌∷◌, ◌++◌, Bool, true, false, ◌||◌, ◌&&◌, Option, Some, None, is_some}
use Rattle.std.specs.Prelude.{if◌then◌else◌, codes}
use Rattle.std.specs.List.{Contains, flat_map}
use Rattle.std.specs.Option.{option_map_or, unwrap_or}
use Rattle.std.specs.Str.{bytes_eq}
use Rattle.language.specs.declared.tree.OperationType.{OperationType}
use Rattle.language.specs.declared.tree.OperationType.TheVariants as kind
use Rattle.language.specs.declared.tree.Field.{Field}
use Rattle.language.specs.declared.tree.InlineFragment.{InlineFragment}
use Rattle.language.specs.declared.tree.Selection.{Selection, out-Selection}
use Rattle.language.specs.declared.tree.Selection.TheOpen as opened
use Rattle.language.specs.declared.tree.Selection.TheVariants as selection
use Rattle.meta.specs.declared.kinds.MetaTypeOf.{MetaTypeOf}
use Rattle.meta.specs.declared.kinds.MetaTypeOf.TheVariants as m
use Rattle.meta.specs.Kinds.{name_of_meta, field_named}
use Rattle.walk.specs.ContextState.{DocumentScope}
use Rattle.walk.specs.ErrorValue.{ErrorValue}
use Rattle.events.specs.Node.{Node, Name, Placed, field, operation_definition}
use Rattle.events.specs.Occurrence.{Occurrence}

abbrev pub unknown_field_message : List ℕ → List ℕ → List ℕ
unknown_field_message name t = (((codes "Unknown field \"" ++ name) ++ codes "\" on type \"") ++ t) ++ codes "\""

abbrev pub root_typename_message : List ℕ
root_typename_message = codes "`__typename` may not be included as a root field in a subscription operation"

-- the field `__typename`, which each type has
abbrev pub is_typename : List ℕ → Bool
is_typename name = bytes_eq name (codes "__typename")

-- a name, reported
abbrev pub at_name : Name → List ℕ → List ErrorValue
at_name name message = record { locations = name.span.start ∷ []; message = message } ∷ []

-- one level of a selection
abbrev pub typename_layer : {S : Type 0} → opened.Selection-F S (Selection S) (Field S) (InlineFragment S) → List ErrorValue
typename_layer (opened.Field f) = if is_typename f.item.name.item.now then at_name f.item.name root_typename_message else []
typename_layer _ = []

-- a member of a subscription's own set, if it is the field `__typename`
abbrev pub root_typename : {S : Type 0} → Selection S → List ErrorValue
root_typename {S} s = typename_layer (out-Selection S s)

-- of a subscription: each of its own set
abbrev pub root_typenames : {S : Type 0} → OperationType → List (Selection S) → List ErrorValue
root_typenames kind.Subscription set = flat_map root_typename set
root_typenames _ set = []

module _ {S C : Type 0} where
  -- a union
  abbrev pub is_union_meta : MetaTypeOf S C → Bool
  is_union_meta (m.Union x) = true
  is_union_meta _ = false

  -- what may be asked of a type: its fields, and of a union `__typename`
  abbrev pub has_field : MetaTypeOf S C → List ℕ → Bool
  has_field t name = is_some (field_named name t) || (is_union_meta t && is_typename name)

  -- a field under a type that is known
  abbrev pub unknown_field : Option (MetaTypeOf S C) → Name → List ErrorValue
  unknown_field None name = []
  unknown_field (Some t) name =
      if has_field t name.item.now then [] else at_name name (unknown_field_message name.item.now (unwrap_or (name_of_meta t) []))

  -- at a node: a field, and a subscription
  abbrev pub wrong_type_at : Option (MetaTypeOf S C) → Node S → List ErrorValue
  wrong_type_at parent (field f) = unknown_field parent f.item.name
  wrong_type_at parent (operation_definition o) = root_typenames o.item.operation_type o.item.selection_set.items
  wrong_type_at parent _ = []

  -- at a field: its name, if the type around it is known and doesn't have it; at a subscription: each `__typename` of
  -- its own set
  abbrev pub fields_of_wrong_type : DocumentScope S C → Occurrence S C → List ErrorValue
  fields_of_wrong_type scope o = wrong_type_at o.types.parent o.node

-- no member of a subscription's own set is the field `__typename`
abbrev pub HasNoRootTypename : {S : Type 0} → OperationType → List (Selection S) → Type 0
HasNoRootTypename {S} kind.Subscription set =
    (f : Placed (Field S)) → Contains set (selection.Field f) → is_typename f.item.name.item.now ≡ false
HasNoRootTypename _ set = Unit {0}

module _ {S C : Type 0} where
  -- at a node: the type around a field has it, if that type is known; and no subscription asks for `__typename` itself
  abbrev pub HasRightFields : Option (MetaTypeOf S C) → Node S → Type 0
  HasRightFields parent (field f) = option_map_or (λ t. has_field t f.item.name.item.now) parent true ≡ true
  HasRightFields parent (operation_definition o) = HasNoRootTypename o.item.operation_type o.item.selection_set.items
  HasRightFields parent _ = Unit {0}
