use Rattle.type_system.specs.All.{type_faults}
use Rattle.type_system_report.proofs.Reported.{reports_next_copied}
use Rattle.type_system.proofs.all.report_types.Goals as goal

pub loop-meta-preserved : goal.loop-meta-preserved
loop-meta-preserved g c =
    reports_next_copied (type_faults c.args.schema.now) c.args.types.now c.loop-meta.meta-index c.meta-item.result _ _ _ _ c.loop-meta-test.true c.meta-item.is c.loop-meta.invariant c.in_ok-report_type.ensures
