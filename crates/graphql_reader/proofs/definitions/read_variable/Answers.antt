use Rattle.std.proofs.lemmas.Result.{err_from_is_err_and}
use Rattle.std.proofs.Common.{◌∙◌}
use Rattle.graphql_reader.specs.Arguments.{name_seen}
use Rattle.graphql_reader.proofs.DocumentLaws.{variable_read}
use Rattle.graphql_reader.proofs.DocumentLeaveLaws.{variable_missing, variable_nameless}
use Rattle.graphql_reader.proofs.DocumentLeaveLaws as leave
use Rattle.graphql_reader.proofs.definitions.read_variable.Goals as goal

pub returns-clause-tree : goal.returns-clause-tree
returns-clause-tree c =
    variable_read (name_seen (record { item = c.in_ok-name.name.item; span = c.span_from-span.result })) c.args.tokens.now c.expect.new.tokens c.name.new.tokens c.in_ok-expect.ensures.taken c.in_ok-name.ensures.taken (c.span_from-span.ensures.start ∙ c.start-start.ensures) c.span_from-span.ensures.stop

pub returns-clause-leaves : goal.returns-clause-leaves
returns-clause-leaves c limit =
    leave.variable_read c.expect.new.tokens c.in_ok-name.name.item.now c.in_ok-expect.ensures.taken c.in_ok-name.ensures.taken

pub returns-in_err-expect-clause-stuck : goal.returns-in_err-expect-clause-stuck
returns-in_err-expect-clause-stuck c =
    let p = err_from_is_err_and c.from_residual.result c.from_residual.ensures.1 in
    rw (p.1, p.2) (λ limit. variable_missing c.in_err-expect.ensures.left c.in_err-expect.ensures.placed)

pub returns-in_err-name-clause-stuck : goal.returns-in_err-name-clause-stuck
returns-in_err-name-clause-stuck c =
    let p = err_from_is_err_and c.from_residual-in_err-name.result c.from_residual-in_err-name.ensures.1 in
    rw (p.1, p.2) (λ limit. variable_nameless c.expect.new.tokens c.in_ok-expect.ensures.taken c.in_err-name.ensures.left c.in_err-name.ensures.placed)
