-- How a name is looked up: in its slot, and if another name took that, in the ordered map.
use Rattle.std.specs.Prelude.{ℕ, zero, suc, List, length, ◌≡◌, ◌<◌, Option, None, Some, Bool, false, slice_get}
use Rattle.std.specs.Prelude.{if◌then◌else◌}
use Rattle.std.specs.BTreeMap.{BTreeMap, get_by}
use Rattle.std.specs.Cmp.Lexicographic.{slice_cmp}
use Rattle.std.specs.Ordering.{nat_cmp}
use Rattle.std.specs.Str.{bytes_eq}
use denote.Ref.{Bor}
use Rattle.name_tables.specs.Slots.{slot_number}

abbrev pub Entries : Type 0 → Type 0
Entries T = List (Bor (List ℕ) × T)

abbrev pub Others : Type 0
Others = BTreeMap (Bor (List ℕ)) ℕ

abbrev pub other_index : Others → List ℕ → Option ℕ
other_index others name = get_by (λ k. slice_cmp nat_cmp name k.now) others

-- Is this an entry of the name?
abbrev pub is_named : {T : Type 0} → Option (Bor (List ℕ) × T) → List ℕ → Bool
is_named None name = false
is_named (Some e) name = bytes_eq e.0.now name

-- The index of a name, by the content of its slot: 0 if it is free, else 1 plus an index.
abbrev pub index_held : {T : Type 0} → Entries T → Others → List ℕ → ℕ → Option ℕ
index_held es others name zero = None
index_held es others name (suc k) = if is_named (slice_get es k) name then Some k else other_index others name

-- The same; without slots the ordered map is asked.
abbrev pub index_by : {T : Type 0} → Entries T → Others → List ℕ → Option ℕ → Option ℕ
index_by es others name None = other_index others name
index_by es others name (Some held) = index_held es others name held

-- The content of the slot of a name.
abbrev pub held_by : List ℕ → List ℕ → Option ℕ
held_by slots name = slice_get slots (slot_number name (length slots))

abbrev pub index_in : {T : Type 0} → Entries T → List ℕ → Others → List ℕ → Option ℕ
index_in es slots others name = index_by es others name (held_by slots name)

-- Each slot that is taken contains 1 plus a valid index.
abbrev pub AreHeld : {T : Type 0} → Entries T → List ℕ → Type 0
AreHeld es slots = (slot k : ℕ) → slice_get slots slot ≡ Some (suc k) → k < length es

-- The ordered map contains valid indices.
abbrev pub AreWithin : {T : Type 0} → Entries T → Others → Type 0
AreWithin es others = (name : List ℕ) (k : ℕ) → other_index others name ≡ Some k → k < length es

-- No name in the ordered map has a free slot.
abbrev pub AreTaken : List ℕ → Others → Type 0
AreTaken slots others = (name : List ℕ) → held_by slots name ≡ Some 0 → other_index others name ≡ None
