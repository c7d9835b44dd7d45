use Rattle.std.proofs.Common.{◌∙◌, sym}
use Rattle.std.proofs.lemmas.Result.{err_from_is_err_and}
use Rattle.graphql_reader.proofs.DocumentLeaveLaws.{name_absent, name_always, name_there, not_seen}
use Rattle.graphql_reader.proofs.definitions.read_operation_name.Goals as goal

pub returns-in_default-clause-leaves : goal.returns-in_default-clause-leaves
returns-in_default-clause-leaves c limit = name_absent (λ n e. not_seen c.ahead.result n c.in_default.not-Name (c.ahead.ensures ∙ e))

pub returns-in_ok-name-in-Name-clause-leaves : goal.returns-in_ok-name-in-Name-clause-leaves
returns-in_ok-name-in-Name-clause-leaves c limit = name_there c.in_ok-name-in-Name.field-0.item.now c.in_ok-name-in-Name.ensures.taken

pub returns-in_err-name-in-Name-clause-stuck : goal.returns-in_err-name-in-Name-clause-stuck
returns-in_err-name-in-Name-clause-stuck c =
    let p = err_from_is_err_and c.from_residual.result c.from_residual.ensures.1 in
    rw (p.1, p.2) (λ limit. name_always c.in-Name.field-0.now (sym c.in-Name.ensures) c.in_err-name-in-Name.ensures.left)
