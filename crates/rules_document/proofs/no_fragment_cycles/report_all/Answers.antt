use Rattle.fragment_graph.specs.DocumentCycles.{name_and_place}
use Rattle.rules_document.specs.NoFragmentCycles.{cycle_error}
use Rattle.rules_document.proofs.Told.{told_next}
use Rattle.rules_document.proofs.no_fragment_cycles.report_all.Goals as goal

pub loop-cycle-preserved : goal.loop-cycle-preserved
loop-cycle-preserved g c =
    told_next cycle_error name_and_place c.args.reports.now c.loop-cycle.cycle-index _ _ _ _ c.loop-cycle-test.true c.loop-cycle.invariant
    c.in_ok-report.ensures.ok
