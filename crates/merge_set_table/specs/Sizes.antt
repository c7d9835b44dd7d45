-- How much a table takes: the entries of its lists.
use Rattle.std.specs.Prelude.{ℕ, ◌+◌, ◌*◌, length}
use Rattle.std.specs.List.{sum_by}
use Rattle.merge_set_table.specs.declared.table.NumberedSet.{NumberedSet}
use Rattle.merge_set_table.specs.declared.table.Table.{Table}

-- A set that is filled. Its spreads count twice, since they are kept as they are written, too.
abbrev pub part_size : NumberedSet → ℕ
part_size part = length part.own.items + 2 * length part.spreads.items + length part.inner.items

-- A set that is stored.
abbrev pub row_size : NumberedSet → ℕ
row_size row = 1 + (length row.own.items + length row.spreads.items)

abbrev pub table_size : {S C : Type 0} → Table S C → ℕ
table_size t = length t.fields.items + length t.order.items + length t.inner.items + length t.written.items + sum_by row_size t.sets.items
