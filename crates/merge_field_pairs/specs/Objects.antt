-- The object type around a field, by a number: two of one name have one number.
use Rattle.std.specs.Prelude.{ℕ, suc, List, Option, Some, None, option_and_then, slice_get}
use Rattle.std.specs.Option.{option_map_or}
use Rattle.name_tables.specs.Slots.{slot_number}
use Rattle.merge_field_pairs.specs.Entries.{PlainEntry, object_name}

module _ {S C : Type 0} where
  -- 0 where there is none
  abbrev pub object_number : PlainEntry S C → ℕ
  object_number a = option_map_or (λ n. suc (slot_number n 16384)) (option_and_then object_name a.parent) 0

  abbrev pub object_number_at : List (PlainEntry S C) → ℕ → ℕ
  object_number_at fields i = option_map_or object_number (slice_get fields i) 0
