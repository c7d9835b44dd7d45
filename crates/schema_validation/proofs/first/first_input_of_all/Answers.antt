use Rattle.std.proofs.Common.{arith}
use Rattle.schema_validation.specs.Names.{inputs_in}
use Rattle.schema_validation.proofs.Finds.{found_here, not_here}
use Rattle.schema_validation.proofs.first.first_input_of_all.Goals as goal

pub returns-in-Some : goal.returns-in-Some
returns-in-Some g c =
    found_here (g.T.NameTest.fails_at c.args.test.now) inputs_in c.args.types.now c.loop-meta.meta-index c.meta-item.result (omega arith) c.meta-item.is c.loop-meta.invariant c.in-Some.name.now c.in-Some.ensures

pub loop-meta-preserved : goal.loop-meta-preserved
loop-meta-preserved g c =
    not_here (g.T.NameTest.fails_at c.args.test.now) inputs_in c.args.types.now c.loop-meta.meta-index c.meta-item.result (omega arith) c.meta-item.is c.loop-meta.invariant c.in_default.ensures
