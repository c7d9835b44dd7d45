use Rattle.std.proofs.Common.{◌≡◌, true, ◌++◌}
use Rattle.indexmap.specs.IndexMap.{values}
use Rattle.schema_validation.specs.Named.{are_keyed}
use Rattle.schema_validation.proofs.keyed.map_by_name.Given as goal

abbrev pub invariant-loop-entry : goal.invariant-loop-entry
invariant-loop-entry g l =
    (goal.iterator-loop-entry g).can_next l.entry-iterator
    × (goal.iterator-loop-entry g).is_finite l.entry-iterator
    × (are_keyed g.T.Keyed.key_of l.map.entries ≡ true)
    × (values l.map ≡ l.yielded)
    × (l.yielded ++ l.entry-iterator.rest.items ≡ l.fn.entries.items)
