use Rattle.std.proofs.Common.{◌++◌, ap, ◌∙◌}
use Rattle.type_system_report.specs.declared.fault.CoordinateOf.TheVariants as k
use Rattle.type_system_report.specs.Fault.{reported}
use Rattle.type_system.specs.ReservedNames.{reserved_directive_argument, reserved_name}
use Rattle.type_system_report.proofs.Reported.{reports_next}
use Rattle.type_system.proofs.reserved_names.report_directive_arguments.Goals as goal

pub loop-argument-preserved : goal.loop-argument-preserved
loop-argument-preserved g c =
    reports_next (reserved_directive_argument c.args.of.now) c.args.arguments.now c.loop-argument.argument-index c.argument-item.result _ _ _ _ c.loop-argument-test.true c.argument-item.is c.loop-argument.invariant (c.in_ok-report_reserved.ensures ∙ ap (λ z. reported c.loop-argument.faults ++ reserved_name (k.DirectiveArgument c.args.of.now z)) c.as_str.ensures.value)
