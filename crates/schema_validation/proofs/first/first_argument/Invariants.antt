use Rattle.std.proofs.Common.{◌≡◌, drop, map}
use Rattle.std.specs.Prelude.{find}
use Rattle.schema_validation.specs.Names.{argument_type}
use Rattle.schema_validation.proofs.first.first_argument.Given as goal

abbrev pub invariant-loop-argument : goal.invariant-loop-argument
invariant-loop-argument g l = find (g.T.NameTest.fails_at l.test) (map argument_type l.arguments) ≡ find (g.T.NameTest.fails_at l.test) (map argument_type (drop l.argument-index l.arguments))
