use Rattle.std.proofs.Common.{[], ◌∷◌}
use Rattle.walk.proofs.Kept.{full_stays}
use Rattle.variable_usages.specs.Unused.{unused_of}
use Rattle.rules_document.specs.NoUnusedVariables.{unused_variable_error}
use Rattle.rules_document.proofs.no_unused_variables.report.Goals as goal

pub returns-then-is_full-clause-ok : goal.returns-then-is_full-clause-ok
returns-then-is_full-clause-ok g c =
    full_stays c.args.ctx.now (unused_variable_error (unused_of c.args.variable.now) ∷ []) _ c.is_full.ensures c.if-is_full.true
