-- The field `__typename`, where metadata does not list it, with a selection set (sections 4.1 and 5.3.3).
use Rattle.std.specs.Prelude.{◌≡◌, ℕ, List, [], ◌∷◌, Bool, true, false, ◌&&◌, Option, Some, None, is_some, codes}
use Rattle.std.specs.Prelude.{if◌then◌else◌}
use Rattle.language_types.specs.Types.{TypeShape, non_null_named, printed}
use Rattle.language.specs.declared.tree.Field.{Field}
use Rattle.meta.specs.declared.kinds.MetaTypeOf.{MetaTypeOf}
use Rattle.meta.specs.Kinds.{is_composite_meta}
use Rattle.walk.specs.ContextState.{DocumentScope}
use Rattle.walk.specs.ErrorValue.{ErrorValue}
use Rattle.events.specs.Node.{Node, Placed, field}
use Rattle.events.specs.Occurrence.{Occurrence}
use Rattle.rules_fields.specs.FieldsOnCorrectType.{is_typename}
use Rattle.rules_fields.specs.ScalarLeafs.{no_subfields_message}

-- that of a leaf of the type `String!`
abbrev pub typename_message : List ℕ
typename_message = no_subfields_message (codes "__typename") (printed (non_null_named (codes "String")))

-- a field that is a leaf, with a selection set or without
abbrev pub set_of_leaf : {S : Type 0} → Bool → Placed (Field S) → List ErrorValue
set_of_leaf true f = record { locations = f.span.start ∷ []; message = typename_message } ∷ []
set_of_leaf false f = []

module _ {S C : Type 0} where
  -- a field is `__typename`, and the type around it, an object, an interface or a union, does not list it
  abbrev pub is_implicit_typename : Option (MetaTypeOf S C) → Option TypeShape → List ℕ → Bool
  is_implicit_typename (Some parent) None name = is_composite_meta parent && is_typename name
  is_implicit_typename _ _ name = false

  -- as a leaf
  abbrev pub typename_set : Option (MetaTypeOf S C) → Option TypeShape → Placed (Field S) → List ErrorValue
  typename_set parent written f =
      if is_implicit_typename parent written f.item.name.item.now then set_of_leaf (is_some f.item.selection_set) f else []

  -- at a node: a field
  abbrev pub typename_set_at : Option (MetaTypeOf S C) → Option TypeShape → Node S → List ErrorValue
  typename_set_at parent written (field f) = typename_set parent written f
  typename_set_at parent written _ = []

  -- at a field: the field, if it is such a `__typename` and has a selection set
  abbrev pub typename_sets : DocumentScope S C → Occurrence S C → List ErrorValue
  typename_sets scope o = typename_set_at o.types.parent o.types.literal o.node

  -- at a node: such a `__typename` has no selection set
  abbrev pub HasNoTypenameSet : Option (MetaTypeOf S C) → Option TypeShape → Node S → Type 0
  HasNoTypenameSet parent written (field f) =
      is_implicit_typename parent written f.item.name.item.now ≡ true → is_some f.item.selection_set ≡ false
  HasNoTypenameSet parent written _ = Unit {0}
