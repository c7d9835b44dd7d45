-- Fields with a selection set that may have none, and fields without one that need one (section 5.3.3).
use Rattle.std.specs.Prelude.{◌≡◌, not, ℕ, List, [], ◌∷◌, ◌++◌, Bool, true, false, Option, Some, is_some, codes}
use Rattle.language_types.specs.Types.{TypeShape, printed}
use Rattle.language.specs.declared.tree.Field.{Field}
use Rattle.meta.specs.declared.kinds.MetaTypeOf.{MetaTypeOf}
use Rattle.meta.specs.Kinds.{is_leaf_meta}
use Rattle.walk.specs.ContextState.{DocumentScope}
use Rattle.walk.specs.ErrorValue.{ErrorValue}
use Rattle.events.specs.Node.{Node, Placed, field}
use Rattle.events.specs.Occurrence.{Occurrence}

abbrev pub no_subfields_message : List ℕ → List ℕ → List ℕ
no_subfields_message name t =
    (((codes "Field \"" ++ name) ++ codes "\" must not have a selection since type ") ++ t) ++ codes " has no subfields"

abbrev pub subfields_needed_message : List ℕ → List ℕ → List ℕ
subfields_needed_message name t =
    (((((codes "Field \"" ++ name) ++ codes "\" of type \"") ++ t) ++ codes "\" must have a selection of subfields. Did you mean \"") ++ name) ++ codes " { ... }\"?"

-- of a leaf or another type, with a selection set or without, as it is printed
abbrev pub wrong_set_of : {S : Type 0} → Bool → Bool → List ℕ → Placed (Field S) → List ErrorValue
wrong_set_of true true t f = record { locations = f.span.start ∷ []; message = no_subfields_message f.item.name.item.now t } ∷ []
wrong_set_of false false t f = record { locations = f.span.start ∷ []; message = subfields_needed_message f.item.name.item.now t } ∷ []
wrong_set_of is_leaf has_set t f = []

module _ {S C : Type 0} where
  -- a leaf has no selection set, and any other type has one
  abbrev pub wrong_set : Option (MetaTypeOf S C) → Option TypeShape → Placed (Field S) → List ErrorValue
  wrong_set (Some t) (Some written) f = wrong_set_of (is_leaf_meta t) (is_some f.item.selection_set) (printed written) f
  wrong_set _ _ f = []

  -- at a node: a field
  abbrev pub wrong_set_at : Option (MetaTypeOf S C) → Option TypeShape → Node S → List ErrorValue
  wrong_set_at t written (field f) = wrong_set t written f
  wrong_set_at t written _ = []

  -- at a field: the field, if its type is known and its selection set does not suit the type
  abbrev pub wrong_sets : DocumentScope S C → Occurrence S C → List ErrorValue
  wrong_sets scope o = wrong_set_at o.types.current o.types.literal o.node

  -- at a node: a field whose type is known has a selection set if and only if the type is no leaf
  abbrev pub HasRightSet : Node S → Option (MetaTypeOf S C) → Option TypeShape → Type 0
  HasRightSet (field f) (Some t) (Some written) = is_some f.item.selection_set ≡ not (is_leaf_meta t)
  HasRightSet _ _ _ = Unit {0}
