use Rattle.lint_schema.proofs.Located.{located_more}
use Rattle.lint_schema.proofs.judging.add_located.Goals as goal

-- one more fault
pub loop-located-preserved : goal.loop-located-preserved
loop-located-preserved c =
    located_more c.args.sources.now c.args.joined.now c.args.found.now c.loop-located.located-index c.located-item.result c.args.faults.now.items c.loop-located.faults.items c.add_one.new.faults.items c.loop-located-test.true c.located-item.is c.in_ok-add_one.ensures c.loop-located.invariant
