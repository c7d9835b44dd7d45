use Rattle.std.proofs.Common.{◌≡◌, drop}
use Rattle.std.specs.Prelude.{find}
use Rattle.std.specs.List.{flat_map}
use Rattle.schema_validation.specs.Names.{members_of}
use Rattle.schema_validation.proofs.first.first_member_of_all.Given as goal

abbrev pub invariant-loop-meta : goal.invariant-loop-meta
invariant-loop-meta g l = find (g.T.NameTest.fails_at l.test) (flat_map members_of l.types) ≡ find (g.T.NameTest.fails_at l.test) (flat_map members_of (drop l.meta-index l.types))
