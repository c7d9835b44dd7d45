use Rattle.std.proofs.Common.{◌≡◌, drop}
use Rattle.meta.specs.Kinds.{name_of_meta}
use Rattle.schema_validation.specs.Named.{are_named}
use Rattle.schema_validation.proofs.accept.are_all_named.Given as goal

abbrev pub invariant-loop-meta : goal.invariant-loop-meta
invariant-loop-meta g l = are_named name_of_meta l.types ≡ are_named name_of_meta (drop l.meta-index l.types)
