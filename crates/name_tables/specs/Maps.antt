-- What a map contains.
use Rattle.std.specs.Prelude.{ℕ, List, length, Option, None, Some, option_map, slice_get}
use Rattle.name_tables.specs.declared.map.NameMap.{NameMap}
use Rattle.name_tables.specs.Looking.{Entries, index_in}

abbrev pub entries_of : {T : Type 0} → NameMap T → Entries T
entries_of m = m.entries.items

-- The index of a name.
abbrev pub index_of : {T : Type 0} → NameMap T → List ℕ → Option ℕ
index_of m name = index_in m.entries.items m.slots.items m.others name

abbrev pub value_at : {T : Type 0} → Entries T → Option ℕ → Option T
value_at es None = None
value_at es (Some k) = option_map (λ e. e.1) (slice_get es k)

-- The value of a name.
abbrev pub value_of : {T : Type 0} → NameMap T → List ℕ → Option T
value_of m name = value_at (entries_of m) (index_of m name)

-- The number of slots.
abbrev pub slots_in : {T : Type 0} → NameMap T → ℕ
slots_in m = length m.slots.items
