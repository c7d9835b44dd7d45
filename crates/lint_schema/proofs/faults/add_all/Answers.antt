use Rattle.std.proofs.Common.{None, subst}
use Rattle.lint_schema.specs.Told.{AddsFault, IsToldAt}
use Rattle.lint_schema.proofs.Telling.{told_more}
use Rattle.lint_schema.proofs.faults.add_all.Goals as goal

-- one more fault
pub loop-placed-preserved : goal.loop-placed-preserved
loop-placed-preserved c =
    let added = subst (λ place. AddsFault (IsToldAt c.args.sources.now place None) c.loop-placed.faults.items c.add_placed.new.faults.items) c.place_of-place.ensures c.in_ok-add_placed.ensures in
    told_more c.args.sources.now c.args.joined.now c.args.found.now c.loop-placed.placed-index c.placed-item.result c.args.faults.now.items c.loop-placed.faults.items c.add_placed.new.faults.items c.loop-placed-test.true c.placed-item.is added c.loop-placed.invariant
