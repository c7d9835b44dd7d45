use Rattle.lint_sources.proofs.Starts.{take_found, take_passed}
use Rattle.lint_sources.proofs.sources.Joined.start_before.Goals as goal
use Rattle.lint_sources.proofs.sources.Joined.start_before.Goals.{then-start-index, else-start-index}

pub loop-start-preserved : goal.loop-start-preserved
loop-start-preserved c =
    elim c.if-start-index.branch [ then-start-index w ↦ take_found _ _ _ _ _ c.loop-start-test.true w.if-start-index.true w.found-is | else-start-index w ↦ take_passed _ _ _ _ _ _ c.loop-start-test.true w.if-start-index.false w.found-is c.loop-start.invariant ]
