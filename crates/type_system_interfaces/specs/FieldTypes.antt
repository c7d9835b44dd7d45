-- Types of fields that may not stand for those of an interface's fields (sections 3.6 and 3.7).
use Rattle.std.specs.Prelude.{ℕ, List, Bool, false, not, ◌||◌, reverse}
use Rattle.std.specs.Option.{option_map_or}
use Rattle.std.specs.Str.{bytes_eq}
use Rattle.language_types.specs.Names.{is_among}
use Rattle.language_types.specs.Types.{TypeShape, shape}
use Rattle.schema.specs.Catalog.{Catalog, type_in}
use Rattle.schema.specs.Layers.{are_layers_below}
use Rattle.schema_validation.specs.Names.{interfaces_of, members_of}
use Rattle.type_system_report.specs.declared.fault.FaultKindOf.TheVariants as k
use Rattle.type_system_report.specs.Fault.{FaultValue, fault_if}
use Rattle.type_system_interfaces.specs.Pair.{PairValue, given_field, wanted_field}

module _ {S C : Type 0} (schema : Catalog S C) where
  -- the first type is a member of the second, a union
  abbrev pub is_member_named : List ℕ → List ℕ → Bool
  is_member_named given wanted = option_map_or (λ t. is_among (members_of t) given) (type_in wanted schema) false

  -- the first type, an object or an interface, implements the second
  abbrev pub is_implementer_named : List ℕ → List ℕ → Bool
  is_implementer_named given wanted = option_map_or (λ t. is_among (interfaces_of t) wanted) (type_in given schema) false

  -- the names are one, or the first type is a member of the second or implements it
  abbrev pub may_stand_for : List ℕ → List ℕ → Bool
  may_stand_for given wanted = bytes_eq given wanted || is_member_named given wanted || is_implementer_named given wanted

  -- the same for lists of such, and for non-nulls of such, which may also stand for types that are not non-null
  abbrev pub is_field_type : TypeShape → TypeShape → Bool
  is_field_type given wanted = are_layers_below (may_stand_for given.name wanted.name) (reverse given.modifiers) (reverse wanted.modifiers)

  -- a field, if its type may not stand for that of the interface's field
  abbrev pub wrong_field_type : PairValue S → List FaultValue
  wrong_field_type p =
      fault_if (not (is_field_type (shape p.given.field_type) (shape p.wanted.field_type))) (given_field p)
      (k.WrongFieldType (wanted_field p) (shape p.wanted.field_type) (shape p.given.field_type))
