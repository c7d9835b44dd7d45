use Rattle.std.proofs.Common.{◌++◌}
use Rattle.std.proofs.lemmas.Result.{on_ok_weaker}
use Rattle.type_system.specs.All.{member_faults, own_faults}
use Rattle.type_system_interfaces.specs.All.{interface_faults}
use Rattle.type_system_report.specs.Fault.{reported}
use Rattle.type_system.specs.OutputTypes.{wrong_output_types}
use Rattle.type_system_report.proofs.Reported.{reports_both}
use Rattle.type_system.proofs.all.report_type.Goals as goal

pub returns : goal.returns
returns g c =
    let r = reported c.args.faults.now in
    let own = own_faults c.args.schema.now c.args.meta.now in
    let outputs = wrong_output_types c.args.schema.now c.args.meta.now in
    let interfaces = interface_faults c.args.schema.now c.args.meta.now in
    let two = reports_both r own outputs _ _ c.in_ok-report_own_faults.ensures c.in_ok-report_wrong_output_types.ensures in
    let three = reports_both r (own ++ outputs) interfaces _ _ two c.in_ok-report_interface_faults.ensures in
    on_ok_weaker c.report_member_faults.result (reports_both r ((own ++ outputs) ++ interfaces) (member_faults c.args.meta.now) _ _ three) c.report_member_faults.ensures
