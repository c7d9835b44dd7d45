-- What a table says of fields and sets, and when one says more.
use Rattle.std.specs.Prelude.{◌≡◌, ◌<◌, ◌≤◌, ℕ, suc, List, [], Some, map, length, get_or, slice_get}
use Rattle.std.specs.List.{All}
use Rattle.std.specs.Option.{option_map_or}
use Rattle.merge_field_pairs.specs.Entries.{PlainEntry, plain, response_of}
use Rattle.merge_sets.specs.declared.node.Entry.{Entry as OwnField}
use Rattle.merge_set_table.specs.declared.table.NumberedSet.{NumberedSet}
use Rattle.merge_set_table.specs.declared.table.Table.{Table}
use Rattle.merge_set_table.specs.Names.{Names, number_in, KeepsNames}

-- The fields, the response names and the sets.
pub record Numbered (S C : Type 0) : Type 0 where
  pub fields : List (PlainEntry S C)
  pub responses : Names
  pub sets : List NumberedSet

abbrev pub own_at : List NumberedSet → ℕ → List OwnField
own_at sets s = option_map_or (λ n. n.own.items) (slice_get sets s) []

abbrev pub spreads_at : List NumberedSet → ℕ → List ℕ
spreads_at sets s = option_map_or (λ n. n.spreads.items) (slice_get sets s) []

-- One more than the number of the set below a field, and 0 where there is none.
abbrev pub height : OwnField → ℕ
height a = option_map_or (λ s. suc s) a.below 0

-- The fragment is there, and its set has a number below the bound.
abbrev pub IsWithin : List ℕ → ℕ → ℕ → Type 0
IsWithin fragments bound g = (g < length fragments) × (get_or fragments g 0 < bound)

-- Each set refers to smaller sets alone, and spreads fragments that there are.
abbrev pub Falling : List NumberedSet → List ℕ → Type 0
Falling sets fragments = (s : ℕ) → All (λ a. height a ≤ s) (own_at sets s) × All (IsWithin fragments s) (spreads_at sets s)

module _ {S C : Type 0} where
  abbrev pub numbered : Table S C → Numbered S C
  numbered t = record { fields = map plain t.fields.items; responses = t.responses; sets = t.sets.items }

  -- All numbers stay what they were.
  pub record Extends (old new : Numbered S C) : Type 0 where
    pub fields : (k : ℕ) (a : PlainEntry S C) → slice_get old.fields k ≡ Some a → slice_get new.fields k ≡ Some a
    pub responses : KeepsNames old.responses new.responses
    pub sets : (k : ℕ) (r : NumberedSet) → slice_get old.sets k ≡ Some r → slice_get new.sets k ≡ Some r
    pub longer : length old.sets ≤ length new.sets

  -- The numbers are those of the field and of its response name.
  pub record IsOwnField (m : Numbered S C) (o : PlainEntry S C) (a : OwnField) : Type 0 where
    pub field : slice_get m.fields a.field ≡ Some o
    pub response : number_in m.responses (response_of o) ≡ Some a.response
