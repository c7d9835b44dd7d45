use Rattle.type_system_report.specs.Fault.{coordinate_value}
use Rattle.sdl_own_faults.specs.Members.{parameter_faults}
use Rattle.sdl_own_faults.proofs.Reported.{reports_next}
use Rattle.sdl_own_faults.proofs.members.report_parameters.Goals as goal

pub loop-parameter-preserved : goal.loop-parameter-preserved
loop-parameter-preserved c =
    reports_next (parameter_faults (coordinate_value c.args.of)) c.args.parameters.now c.loop-parameter.parameter-index c.parameter-item.result _ _ _ _ c.loop-parameter-test.true c.parameter-item.is c.loop-parameter.invariant c.in_ok-report_parameter.ensures
