-- Fields that the object, interface or union around them does not have (section 5.3.1).
use Rattle.std.specs.Prelude.{◌≡◌, List, [], Bool, true, false, Option, if◌then◌else◌}
use Rattle.std.specs.Option.{option_map_or}
use Rattle.meta.specs.declared.kinds.MetaTypeOf.{MetaTypeOf}
use Rattle.meta.specs.Kinds.{is_composite_meta}
use Rattle.walk.specs.ContextState.{DocumentScope}
use Rattle.walk.specs.ErrorValue.{ErrorValue}
use Rattle.events.specs.Node.{Node, Name, field}
use Rattle.events.specs.Occurrence.{Occurrence}
use Rattle.rules_fields.specs.FieldsOnCorrectType.{has_field, unknown_field}

module _ {S C : Type 0} where
  -- the type around a field is known, and it is an object, an interface or a union
  abbrev pub is_composite : Option (MetaTypeOf S C) → Bool
  is_composite parent = option_map_or is_composite_meta parent false

  -- a field of such a type
  abbrev pub unknown_field_of : Option (MetaTypeOf S C) → Name → List ErrorValue
  unknown_field_of parent name = if is_composite parent then unknown_field parent name else []

  -- at a node: a field
  abbrev pub unknown_field_at : Option (MetaTypeOf S C) → Node S → List ErrorValue
  unknown_field_at parent (field f) = unknown_field_of parent f.item.name
  unknown_field_at parent _ = []

  -- at a field: its name, if the type around it is an object, an interface or a union, and does not have the field
  abbrev pub unknown_fields : DocumentScope S C → Occurrence S C → List ErrorValue
  unknown_fields scope o = unknown_field_at o.types.parent o.node

  -- at a node: a field is one of the object, interface or union around it
  abbrev pub HasKnownField : Option (MetaTypeOf S C) → Node S → Type 0
  HasKnownField parent (field f) = is_composite parent ≡ true → option_map_or (λ t. has_field t f.item.name.item.now) parent true ≡ true
  HasKnownField parent _ = Unit {0}
