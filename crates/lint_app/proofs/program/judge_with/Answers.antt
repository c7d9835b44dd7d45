use Rattle.std.proofs.lemmas.Result.{IfOk-weaker}
use Rattle.lint_app.proofs.program.judge_with.Goals as goal

-- the values are those that were read
pub returns : goal.returns
returns g c = IfOk-weaker c.judge_queries.result _ _ (λ told tells. (c.in_ok-values.values, tells)) c.judge_queries.ensures
