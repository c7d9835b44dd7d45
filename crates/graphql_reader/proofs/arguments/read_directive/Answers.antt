use Rattle.std.proofs.lemmas.Result.{err_from_is_err_and}
use Rattle.std.proofs.Common.{◌∙◌}
use Rattle.value_reader.specs.Seen.{rules_of}
use Rattle.graphql_reader.specs.Arguments.{name_seen}
use Rattle.graphql_reader.proofs.ArgumentLaws.{directive_read}
use Rattle.graphql_reader.proofs.ArgumentLeaveLaws.{directive_fault, directive_missing, directive_nameless}
use Rattle.graphql_reader.proofs.ArgumentLeaveLaws as leave
use Rattle.graphql_reader.proofs.arguments.read_directive.Goals as goal

pub returns-clause-tree : goal.returns-clause-tree
returns-clause-tree c =
    directive_read (rules_of c.args.variables c.args.max_depth) (name_seen c.in_ok-name.name) c.in_ok-arguments.arguments c.span_from-span.result c.args.tokens.now c.expect.new.tokens c.name.new.tokens c.read_arguments.new.tokens c.in_ok-expect.ensures.taken c.in_ok-name.ensures.taken c.in_ok-name.ensures.span c.in_ok-arguments.ensures.tree (c.span_from-span.ensures.start ∙ c.start-start.ensures) c.span_from-span.ensures.stop

pub returns-clause-leaves : goal.returns-clause-leaves
returns-clause-leaves c =
    leave.directive_read c.args.variables c.expect.new.tokens c.in_ok-name.name.item.now c.in_ok-expect.ensures.taken c.in_ok-name.ensures.taken c.in_ok-arguments.ensures.leaves

pub returns-in_err-expect-clause-stuck : goal.returns-in_err-expect-clause-stuck
returns-in_err-expect-clause-stuck c =
    let p = err_from_is_err_and c.from_residual.result c.from_residual.ensures.1 in
    rw (p.1, p.2) (directive_missing c.args.variables c.in_err-expect.ensures.left c.in_err-expect.ensures.placed)

pub returns-in_err-name-clause-stuck : goal.returns-in_err-name-clause-stuck
returns-in_err-name-clause-stuck c =
    let p = err_from_is_err_and c.from_residual-in_err-name.result c.from_residual-in_err-name.ensures.1 in
    rw (p.1, p.2) (directive_nameless c.args.variables c.expect.new.tokens c.in_ok-expect.ensures.taken c.in_err-name.ensures.left c.in_err-name.ensures.placed)

pub returns-in_err-arguments-clause-stuck : goal.returns-in_err-arguments-clause-stuck
returns-in_err-arguments-clause-stuck c =
    let p = err_from_is_err_and c.from_residual-in_err-arguments.result c.from_residual-in_err-arguments.ensures.1 in
    rw (p.1, p.2) (directive_fault c.args.variables c.expect.new.tokens c.in_ok-name.name.item.now c.in_ok-expect.ensures.taken c.in_ok-name.ensures.taken c.in_err-arguments.ensures.stuck)
