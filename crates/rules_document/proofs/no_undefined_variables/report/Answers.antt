use Rattle.std.proofs.Common.{[], ◌∷◌}
use Rattle.walk.proofs.Kept.{full_stays}
use Rattle.variable_usages.specs.Undefined.{undefined_of}
use Rattle.rules_document.specs.NoUndefinedVariables.{undefined_error}
use Rattle.rules_document.proofs.no_undefined_variables.report.Goals as goal

pub returns-then-is_full-clause-ok : goal.returns-then-is_full-clause-ok
returns-then-is_full-clause-ok g c =
    full_stays c.args.ctx.now (undefined_error (undefined_of c.args.variable.now) ∷ []) _ c.is_full.ensures c.if-is_full.true
