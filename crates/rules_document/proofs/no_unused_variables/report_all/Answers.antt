use Rattle.variable_usages.specs.Unused.{unused_of}
use Rattle.rules_document.specs.NoUnusedVariables.{unused_variable_error}
use Rattle.rules_document.proofs.Told.{told_next}
use Rattle.rules_document.proofs.no_unused_variables.report_all.Goals as goal

pub loop-variable-preserved : goal.loop-variable-preserved
loop-variable-preserved g c =
    told_next unused_variable_error unused_of c.args.found.now c.loop-variable.variable-index _ _ _ _ c.loop-variable-test.true c.loop-variable.invariant
    c.in_ok-report.ensures.ok
