-- What stands between two fields by themselves (section 5.3.2).
use Rattle.std.specs.Prelude.{Bool, false, not, ◌&&◌, Option, Some, None, if◌then◌else◌}
use Rattle.std.specs.Str.{bytes_eq}
use Rattle.language_types.specs.Types.{shape}
use Rattle.meta.specs.declared.fields.Field as metadata
use Rattle.schema.specs.Catalog.{Catalog}
use Rattle.merge_field_pairs.specs.declared.direct.DirectReason.{DirectReason}
use Rattle.merge_field_pairs.specs.declared.direct.DirectReason.TheVariants as reason
use Rattle.merge_field_pairs.specs.Entries.{PlainEntry, exclusive_of}
use Rattle.merge_field_pairs.specs.SameArguments.{same_arguments}
use Rattle.merge_field_pairs.specs.TypeConflict.{do_types_conflict}

-- The first that holds, of two fields that are exclusive or not, have one name or not, are given the same arguments
-- or not, and have types in conflict or not.
abbrev pub reason_of : Bool → Bool → Bool → Bool → Option DirectReason
reason_of exclusive name arguments conflict =
    if not exclusive && not name then Some reason.DifferentNames
    else if not exclusive && not arguments then Some reason.DifferentArguments
    else if conflict then Some reason.DifferentTypes
    else None

module _ {S C : Type 0} where
  -- the fields have one name, whatever their aliases
  abbrev pub is_same_name : PlainEntry S C → PlainEntry S C → Bool
  is_same_name a b = bytes_eq a.field.item.name.item.now b.field.item.name.item.now

  -- both types are known and in conflict
  abbrev pub do_known_types_conflict : Catalog S C → Option (metadata.Field S) → Option (metadata.Field S) → Bool
  do_known_types_conflict schema (Some f) (Some g) = do_types_conflict schema (shape f.field_type) (shape g.field_type)
  do_known_types_conflict schema _ _ = false

  -- of two fields that are exclusive or not
  abbrev pub reason_under : (S → S → Bool) → Catalog S C → Bool → PlainEntry S C → PlainEntry S C → Option DirectReason
  reason_under E schema exclusive a b =
      reason_of exclusive (is_same_name a b) (same_arguments E a.field.item.arguments b.field.item.arguments)
      (do_known_types_conflict schema a.metadata b.metadata)

  -- of two fields whose surroundings are exclusive or not
  abbrev pub direct_of : (S → S → Bool) → Catalog S C → Bool → PlainEntry S C → PlainEntry S C → Option DirectReason
  direct_of E schema flag a b = reason_under E schema (exclusive_of flag a b) a b
