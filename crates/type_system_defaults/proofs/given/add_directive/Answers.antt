use Rattle.std.proofs.Common.{◌++◌, ap, ◌∙◌}
use Rattle.type_system_report.specs.declared.fault.CoordinateOf.TheVariants as k
use Rattle.type_system_report.proofs.Reported.{reports_next}
use Rattle.type_system_defaults.specs.Given.{default_at, given_values, directive_argument_default}
use Rattle.type_system_defaults.proofs.given.add_directive.Goals as goal

pub loop-argument-preserved : goal.loop-argument-preserved
loop-argument-preserved g c =
    reports_next (directive_argument_default c.as_str-of.result.now) c.deref-argument-items.result.now c.loop-argument.argument-index c.argument-item.result _ _ _ _ c.loop-argument-test.true c.argument-item.is c.loop-argument.invariant (c.in_ok-add_default.ensures ∙ ap (λ z. given_values c.loop-argument.given ++ default_at (k.DirectiveArgument c.as_str-of.result.now z) c.argument-item.result) c.as_str.ensures.value)
