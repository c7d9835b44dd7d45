use Rattle.std.proofs.lemmas.Result.{IfOk-weaker}
use Rattle.lint_app.proofs.program.judge_all.Goals as goal

-- the root node is that which was read
pub returns : goal.returns
returns g c = IfOk-weaker c.judge_by.result _ _ (λ told by. (c.in_ok-root.root, c.in_ok-root.ensures, by)) c.judge_by.ensures
