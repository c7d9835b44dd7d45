use Rattle.std.proofs.Common.{◌≡◌, drop}
use Rattle.std.specs.Prelude.{find}
use Rattle.std.specs.List.{flat_map}
use Rattle.schema_validation.specs.Names.{inputs_in}
use Rattle.schema_validation.proofs.first.first_input_of_all.Given as goal

abbrev pub invariant-loop-meta : goal.invariant-loop-meta
invariant-loop-meta g l = find (g.T.NameTest.fails_at l.test) (flat_map inputs_in l.types) ≡ find (g.T.NameTest.fails_at l.test) (flat_map inputs_in (drop l.meta-index l.types))
