-- The types of a schema: metadata with modifiers (section 3.4).
use Rattle.std.specs.Prelude.{List, [], ◌∷◌, ◌++◌, Option, Some, None, option_map, reverse, unwrap_or}
use Rattle.language_types.specs.declared.types.TypeModifier.{TypeModifier}
use Rattle.language_types.specs.declared.types.TypeModifier.TheVariants as m
use Rattle.language_types.specs.Types.{TypeShape}
use Rattle.meta.specs.declared.kinds.MetaTypeOf.{MetaTypeOf}
use Rattle.schema.specs.declared.model.types.TypeTypeOf.{TypeTypeOf}
use Rattle.schema.specs.declared.model.types.TypeTypeOf.TheFolds.{fold-TypeTypeOf}
use Rattle.schema.specs.declared.model.types.TypeTypeOf.TheOpen as open_type
use Rattle.meta.specs.Kinds.{name_of_meta}

-- Metadata and its modifiers, innermost first.
pub record WrappedMeta (S C : Type 0) : Type 0 where
  pub meta : MetaTypeOf S C
  pub modifiers : List TypeModifier

-- the modifiers of the items, if a list is outermost apart from non-nulls; they are read from the outside
abbrev pub modifiers_of_items : List TypeModifier → Option (List TypeModifier)
modifiers_of_items [] = None
modifiers_of_items (m.NonNull ∷ ms) = modifiers_of_items ms
modifiers_of_items (m.List size ∷ ms) = Some ms

module _ {S C : Type 0} where
  -- metadata without modifiers
  abbrev pub plain_meta : MetaTypeOf S C → WrappedMeta S C
  plain_meta t = record { meta = t; modifiers = [] }

  -- one more modifier, as the outermost
  abbrev pub wrap_meta : TypeModifier → WrappedMeta S C → WrappedMeta S C
  wrap_meta m w = record { meta = w.meta; modifiers = w.modifiers ++ m ∷ [] }

  -- one level of a type, with the inner type already read
  abbrev pub wrapped_layer : open_type.TypeTypeOf-F S C (WrappedMeta S C) → WrappedMeta S C
  wrapped_layer (open_type.Concrete x) = plain_meta x.now
  wrapped_layer (open_type.NonNull x) = wrap_meta m.NonNull x.value
  wrapped_layer (open_type.List x size) = wrap_meta (m.List size) x.value

  -- The metadata of a type and its modifiers:
  --   wrapped_of (Concrete t)  = plain_meta t
  --   wrapped_of (NonNull t)   = wrap_meta NonNull (wrapped_of t)
  --   wrapped_of (List t size) = wrap_meta (List size) (wrapped_of t)
  abbrev pub wrapped_of : TypeTypeOf S C → WrappedMeta S C
  wrapped_of = fold-TypeTypeOf S C (WrappedMeta S C) wrapped_layer

  -- the type of the items, if a list is outermost apart from non-nulls
  abbrev pub items_of : WrappedMeta S C → Option (WrappedMeta S C)
  items_of w = option_map (λ ms. record { meta = w.meta; modifiers = reverse ms }) (modifiers_of_items (reverse w.modifiers))

  -- the name of the metadata, or the empty text, with the modifiers
  abbrev pub wrapped_shape : WrappedMeta S C → TypeShape
  wrapped_shape w = record { name = unwrap_or (name_of_meta w.meta) []; modifiers = w.modifiers }
