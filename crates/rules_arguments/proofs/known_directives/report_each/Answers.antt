use Rattle.rules_arguments.specs.KnownDirectives.{unsuitable}
use Rattle.rules_support.proofs.Reported.{reports_next_in}
use Rattle.rules_arguments.proofs.known_directives.report_each.Goals as goal

pub loop-directive-preserved : goal.loop-directive-preserved
loop-directive-preserved g c =
    reports_next_in (λ schema. unsuitable schema c.args.place.now) c.deref-directive-items.result.now c.loop-directive.directive-index c.directive-item.result _ _ _ _ c.loop-directive-test.true c.directive-item.is c.loop-directive.invariant c.in_ok-report_unsuitable.ensures.ok
