use Rattle.std.proofs.lemmas.Result.{err_from_is_err_and, IfOk-weaker}
use Rattle.graphql_reader.proofs.SelectionLeaveLaws.{set_deep, set_missing, set_opened}
use Rattle.graphql_reader.proofs.SelectionLaws.{on_err_both}
use Rattle.graphql_reader.proofs.selections.open_set.Goals as goal

pub returns-clause-leaves : goal.returns-clause-leaves
returns-clause-leaves c = IfOk-weaker c.expect.result _ _ (λ x t. set_opened c.args.levels t) c.expect.ensures.taken

pub returns-clause-stuck : goal.returns-clause-stuck
returns-clause-stuck c = on_err_both c.expect.result (λ e t p. set_missing c.args.levels t p) c.expect.ensures.left c.expect.ensures.placed

pub returns-in_err-check_depth-clause-stuck : goal.returns-in_err-check_depth-clause-stuck
returns-in_err-check_depth-clause-stuck c =
    let p = err_from_is_err_and c.from_residual.result c.from_residual.ensures.1 in
    rw (p.1, p.2) (set_deep c.args.levels c.in_err-check_depth.ensures.deep c.in_err-check_depth.ensures.placed)
