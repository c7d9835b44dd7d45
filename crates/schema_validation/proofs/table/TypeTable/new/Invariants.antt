use Rattle.std.proofs.Common.{◌≡◌, true, take}
use Rattle.meta.specs.Kinds.{name_of_meta}
use Rattle.schema_validation.specs.Named.{are_distinct}
use Rattle.schema_validation.specs.Tables.{HasTypes}
use Rattle.schema_validation.proofs.table.TypeTable.new.Given as goal

abbrev pub invariant-loop-meta : goal.invariant-loop-meta
invariant-loop-meta g l = HasTypes (take l.meta-index l.types) l.by_name × (are_distinct name_of_meta (take l.meta-index l.types) ≡ true)
