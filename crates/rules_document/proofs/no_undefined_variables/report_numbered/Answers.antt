use Rattle.std.proofs.Common.{map}
use Rattle.walk.proofs.Kept.{full_stays}
use Rattle.variable_usages.proofs.Skipping.{some_numbered}
use Rattle.rules_document.specs.NoUndefinedVariables.{undefined_error}
use Rattle.rules_document.proofs.no_undefined_variables.report_numbered.Goals as goal

pub returns-then-is_full-clause-ok : goal.returns-then-is_full-clause-ok
returns-then-is_full-clause-ok g c =
    let (found, is) = some_numbered c.args.document.now c.args.index.now.scopes c.requires.indexed.scopes c.args.number c.requires.numbered in
    (found, is, full_stays c.args.ctx.now (map undefined_error found) _ c.is_full.ensures c.if-is_full.true)
