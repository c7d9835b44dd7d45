use Rattle.std.proofs.Common.{◌≡◌, Some, option_map, subst}
use Rattle.std.proofs.lemmas.Result.{IfOk-weaker}
use Rattle.std.specs.Option.{IfSome}
use Rattle.lint_args.specs.Asks.{word_texts}
use Rattle.lint_files.proofs.paths.stood_for.Goals as goal

-- what was listed stands in order
pub returns-in-Some : goal.returns-in-Some
returns-in-Some g c =
    let below = (g.I.Inputs.host c.args.inputs.now).below c.args.argument.now in
    let known = subst (λ listed. IfSome below (λ known. option_map (λ paths. word_texts paths.items) listed ≡ known)) c.in-Some.is c.in_ok-listed.ensures in
    IfOk-weaker c.in_order.result _ _ (λ stood is. (Some c.in-Some.listed.items, known, is)) c.in_order.ensures
