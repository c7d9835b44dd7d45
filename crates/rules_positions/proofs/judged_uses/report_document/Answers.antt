use Rattle.std.proofs.lemmas.Result.{IfOk-weaker}
use Rattle.operation_scopes.specs.Index.{operation_names}
use Rattle.rules_positions.proofs.judged_uses.report_document.Goals as goal

pub returns-clause-ok : goal.returns-clause-ok
returns-clause-ok g c =
    IfOk-weaker c.report_names.result _ _ (λ _ (es, p, e). (es, (operation_names c.args.index.now, c.requires.names, p), e)) c.report_names.ensures.ok
