use Rattle.std.proofs.lemmas.Result.{err_from_is_err_and}
use Rattle.graphql_strings.proofs.EscapeLaws.{first_missing, second_missing, third_missing, fourth_missing, four_digits}
use Rattle.graphql_strings.proofs.escapes.unit_at.Goals as goal

pub returns-in_err-a-clause-exact : goal.returns-in_err-a-clause-exact
returns-in_err-a-clause-exact c =
    let p = err_from_is_err_and c.from_residual.result c.from_residual.ensures.1 in
    rw (p.1, p.2) (first_missing c.args.text.now c.args.index c.in_err-a.ensures.missing)

pub returns-in_err-b-clause-exact : goal.returns-in_err-b-clause-exact
returns-in_err-b-clause-exact c =
    let p = err_from_is_err_and c.from_residual-in_err-b.result c.from_residual-in_err-b.ensures.1 in
    rw (p.1, p.2) (second_missing c.args.text.now c.args.index c.in_ok-a.ensures.found c.in_err-b.ensures.missing)

pub returns-in_err-c-clause-exact : goal.returns-in_err-c-clause-exact
returns-in_err-c-clause-exact c =
    let p = err_from_is_err_and c.from_residual-in_err-c.result c.from_residual-in_err-c.ensures.1 in
    rw (p.1, p.2) (third_missing c.args.text.now c.args.index c.in_ok-a.ensures.found c.in_ok-b.ensures.found c.in_err-c.ensures.missing)

pub returns-in_err-d-clause-exact : goal.returns-in_err-d-clause-exact
returns-in_err-d-clause-exact c =
    let p = err_from_is_err_and c.from_residual-in_err-d.result c.from_residual-in_err-d.ensures.1 in
    rw (p.1, p.2) (fourth_missing c.args.text.now c.args.index c.in_ok-a.ensures.found c.in_ok-b.ensures.found c.in_ok-c.ensures.found c.in_err-d.ensures.missing)

pub returns-clause-exact : goal.returns-clause-exact
returns-clause-exact c =
    four_digits c.args.text.now c.args.index c.in_ok-a.ensures.found c.in_ok-b.ensures.found c.in_ok-c.ensures.found c.in_ok-d.ensures.found
