use Rattle.rules_arguments.specs.ProvidedNonNullArguments.{is_required, missing_argument, words_before}
use Rattle.rules_support.proofs.Reported.{reports_next}
use Rattle.rules_arguments.proofs.provided_non_null_arguments.report_each.Goals as goal

pub loop-argument-preserved : goal.loop-argument-preserved
loop-argument-preserved g c =
    reports_next (missing_argument (is_required c.args.bearer) (words_before c.args.bearer) c.args.place c.args.written.now) c.args.known.now c.loop-argument.argument-index c.argument-item.result _ _ _ _ c.loop-argument-test.true c.argument-item.is c.loop-argument.invariant c.in_ok-report_missing.ensures.ok
