-- Names that were numbered a short while ago.
use Rattle.std.specs.Prelude.{◌≡◌, ℕ, List, Option, Some, None, slice_get, option_and_then, if◌then◌else◌}
use Rattle.std.specs.Str.{bytes_eq}
use Rattle.merge_set_table.specs.declared.recent.RecentName.{RecentName}
use Rattle.merge_set_table.specs.NameMap.{NameMap, number_at}

abbrev pub number_if : List ℕ → RecentName → Option ℕ
number_if name kept = if bytes_eq kept.name.now name then Some kept.number else None

-- The number of the name, where it is the one in the slot.
abbrev pub number_in_slot : List (Option RecentName) → ℕ → List ℕ → Option ℕ
number_in_slot slots slot name = option_and_then (λ o. option_and_then (number_if name) o) (slice_get slots slot)

-- The names in the slots have the numbers there.
abbrev pub AreRecent : NameMap → List (Option RecentName) → Type 0
AreRecent map slots = (slot : ℕ) (name : List ℕ) (k : ℕ) → number_in_slot slots slot name ≡ Some k → number_at map name ≡ Some k

-- What stands in a slot stood there before.
abbrev pub ForgetsNames : List (Option RecentName) → List (Option RecentName) → Type 0
ForgetsNames old new = (slot : ℕ) (q : List ℕ) (k : ℕ) → number_in_slot new slot q ≡ Some k → number_in_slot old slot q ≡ Some k

-- The name stands in the slot, and in every other what stood there.
pub record KeepsName (slot : ℕ) (name : List ℕ) (number : ℕ) (old new : List (Option RecentName)) : Type 0 where
  pub there : (q : List ℕ) → number_in_slot new slot q ≡ (if bytes_eq name q then Some number else None)
  pub others : (s : ℕ) (q : List ℕ) → (s ≡ slot → ⊥) → number_in_slot new s q ≡ number_in_slot old s q
