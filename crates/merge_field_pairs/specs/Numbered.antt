-- Fields by number: what stands between two of them.
use Rattle.std.specs.Prelude.{◌≡◌, ℕ, List, Bool, Option, Some, None, slice_get}
use Rattle.schema.specs.Catalog.{Catalog}
use Rattle.merge_field_pairs.specs.declared.direct.DirectReason.{DirectReason}
use Rattle.merge_field_pairs.specs.Entries.{PlainEntry, IsTidy, exclusive_of}
use Rattle.merge_field_pairs.specs.DirectReason.{direct_of}

module _ {S C : Type 0} where
  -- where one of them is no field, there is nothing but the surroundings
  abbrev pub exclusive_between : Bool → Option (PlainEntry S C) → Option (PlainEntry S C) → Bool
  exclusive_between exclusive (Some a) (Some b) = exclusive_of exclusive a b
  exclusive_between exclusive (Some a) None = exclusive
  exclusive_between exclusive None (Some b) = exclusive
  exclusive_between exclusive None None = exclusive

  -- where one of them is no field, there is no reason
  abbrev pub direct_between : (S → S → Bool) → Catalog S C → Bool → Option (PlainEntry S C) → Option (PlainEntry S C) → Option DirectReason
  direct_between E schema exclusive (Some a) (Some b) = direct_of E schema exclusive a b
  direct_between E schema exclusive (Some a) None = None
  direct_between E schema exclusive None (Some b) = None
  direct_between E schema exclusive None None = None

  abbrev pub exclusive_at : List (PlainEntry S C) → Bool → ℕ → ℕ → Bool
  exclusive_at fields exclusive i j = exclusive_between exclusive (slice_get fields i) (slice_get fields j)

  abbrev pub direct_at : (S → S → Bool) → Catalog S C → List (PlainEntry S C) → Bool → ℕ → ℕ → Option DirectReason
  direct_at E schema fields exclusive i j = direct_between E schema exclusive (slice_get fields i) (slice_get fields j)

  -- all fields are tidy
  abbrev pub AreTidy : List (PlainEntry S C) → Type 0
  AreTidy fields = (i : ℕ) (a : PlainEntry S C) → slice_get fields i ≡ Some a → IsTidy a
