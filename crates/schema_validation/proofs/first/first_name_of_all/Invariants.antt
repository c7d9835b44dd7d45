use Rattle.std.proofs.Common.{◌≡◌, drop}
use Rattle.std.specs.Prelude.{find}
use Rattle.std.specs.List.{flat_map}
use Rattle.schema_validation.specs.Names.{names_in}
use Rattle.schema_validation.proofs.first.first_name_of_all.Given as goal

abbrev pub invariant-loop-meta : goal.invariant-loop-meta
invariant-loop-meta g l = find (g.T.NameTest.fails_at l.test) (flat_map names_in l.types) ≡ find (g.T.NameTest.fails_at l.test) (flat_map names_in (drop l.meta-index l.types))
