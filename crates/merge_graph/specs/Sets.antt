-- The sets of a table, as a search has them.
use Rattle.std.specs.Prelude.{ℕ, List}
use Rattle.merge_sets.specs.declared.node.Entry.{Entry}
use Rattle.merge_sets.specs.declared.node.SetNode.{SetNode}
use Rattle.merge_set_table.specs.declared.table.NumberedSet.{NumberedSet}

-- A set by its own fields and its spreads.
pub record PlainSet : Type 0 where
  pub own : List Entry
  pub spreads : List ℕ

abbrev pub plain_row : NumberedSet → PlainSet
plain_row s = record { own = s.own.items; spreads = s.spreads.items }

abbrev pub plain_node : SetNode → PlainSet
plain_node s = record { own = s.own.items; spreads = s.spreads.items }
