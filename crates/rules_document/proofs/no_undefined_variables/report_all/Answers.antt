use Rattle.variable_usages.specs.Undefined.{undefined_of}
use Rattle.rules_document.specs.NoUndefinedVariables.{undefined_error}
use Rattle.rules_document.proofs.Told.{told_next}
use Rattle.rules_document.proofs.no_undefined_variables.report_all.Goals as goal

pub loop-variable-preserved : goal.loop-variable-preserved
loop-variable-preserved g c =
    told_next undefined_error undefined_of c.args.found.now c.loop-variable.variable-index _ _ _ _ c.loop-variable-test.true c.loop-variable.invariant
    c.in_ok-report.ensures.ok
