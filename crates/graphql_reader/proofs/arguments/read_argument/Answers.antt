use Rattle.std.proofs.lemmas.Result.{err_from_is_err_and}
use Rattle.graphql_lexer.specs.Ahead.{left}
use Rattle.value_reader.specs.Seen.{rules_of, value_seen}
use Rattle.graphql_reader.specs.Arguments.{name_seen}
use Rattle.graphql_reader.proofs.ArgumentLaws.{argument_read, argument_once, name_fault, colon_fault, value_fault}
use Rattle.graphql_reader.proofs.ArgumentLeaveLaws as leave
use Rattle.graphql_reader.proofs.arguments.read_argument.Goals as goal

pub returns-clause-argument : goal.returns-clause-argument
returns-clause-argument c =
    argument_read (rules_of c.args.variables c.args.max_depth) (name_seen c.in_ok-name.name) (value_seen c.in_ok-value.value) c.args.tokens.now c.name.new.tokens c.expect.new.tokens (left c.read_value.new.tokens) c.in_ok-name.ensures.taken c.in_ok-name.ensures.span c.in_ok-expect.ensures.taken c.in_ok-value.ensures.value

pub returns-clause-only : goal.returns-clause-only
returns-clause-only c b rest h =
    argument_once (rules_of c.args.variables c.args.max_depth) (name_seen c.in_ok-name.name) (value_seen c.in_ok-value.value) c.args.tokens.now c.name.new.tokens c.expect.new.tokens (left c.read_value.new.tokens) c.in_ok-name.ensures.taken c.in_ok-name.ensures.span c.in_ok-expect.ensures.taken c.in_ok-value.ensures.only b rest h

pub returns-in_err-name-clause-fault : goal.returns-in_err-name-clause-fault
returns-in_err-name-clause-fault c =
    let p = err_from_is_err_and c.from_residual.result c.from_residual.ensures.1 in
    rw (p.1, p.2) (name_fault (rules_of c.args.variables c.args.max_depth) c.args.tokens.now c.name.new.tokens _ c.in_err-name.ensures.left)

pub returns-in_err-expect-clause-fault : goal.returns-in_err-expect-clause-fault
returns-in_err-expect-clause-fault c =
    let p = err_from_is_err_and c.from_residual-in_err-expect.result c.from_residual-in_err-expect.ensures.1 in
    rw (p.1, p.2) (colon_fault (rules_of c.args.variables c.args.max_depth) (name_seen c.in_ok-name.name) c.args.tokens.now c.name.new.tokens c.expect.new.tokens _ c.in_ok-name.ensures.taken c.in_ok-name.ensures.span c.in_err-expect.ensures.left)

pub returns-in_err-value-clause-fault : goal.returns-in_err-value-clause-fault
returns-in_err-value-clause-fault c =
    let p = err_from_is_err_and c.from_residual-in_err-value.result c.from_residual-in_err-value.ensures.1 in
    rw (p.1, p.2) (value_fault (rules_of c.args.variables c.args.max_depth) (name_seen c.in_ok-name.name) c.args.tokens.now c.name.new.tokens c.expect.new.tokens (left c.read_value.new.tokens) _ c.in_ok-name.ensures.taken c.in_ok-name.ensures.span c.in_ok-expect.ensures.taken c.in_err-value.ensures.fault)

pub returns-clause-leaves : goal.returns-clause-leaves
returns-clause-leaves c =
    leave.argument_read c.args.variables c.name.new.tokens c.in_ok-name.name.item.now c.in_ok-name.ensures.taken c.in_ok-expect.ensures.taken (leave.value_read c.args.variables c.expect.new.tokens c.read_value.new.tokens (value_seen c.in_ok-value.value) c.in_ok-value.ensures.value)

pub returns-in_err-name-clause-stuck : goal.returns-in_err-name-clause-stuck
returns-in_err-name-clause-stuck c =
    let p = err_from_is_err_and c.from_residual.result c.from_residual.ensures.1 in
    rw (p.1, p.2) (leave.argument_nameless c.args.variables c.in_err-name.ensures.left c.in_err-name.ensures.placed)

pub returns-in_err-expect-clause-stuck : goal.returns-in_err-expect-clause-stuck
returns-in_err-expect-clause-stuck c =
    let p = err_from_is_err_and c.from_residual-in_err-expect.result c.from_residual-in_err-expect.ensures.1 in
    rw (p.1, p.2) (leave.argument_colon c.args.variables c.name.new.tokens c.in_ok-name.name.item.now c.in_ok-name.ensures.taken c.in_err-expect.ensures.left c.in_err-expect.ensures.placed)

pub returns-in_err-value-clause-stuck : goal.returns-in_err-value-clause-stuck
returns-in_err-value-clause-stuck c =
    let p = err_from_is_err_and c.from_residual-in_err-value.result c.from_residual-in_err-value.ensures.1 in
    rw (p.1, p.2) (leave.argument_value c.args.variables c.name.new.tokens c.in_ok-name.name.item.now c.in_ok-name.ensures.taken c.in_ok-expect.ensures.taken (leave.value_fault c.args.variables c.expect.new.tokens c.read_value.new.tokens _ c.in_err-value.ensures.none c.in_err-value.ensures.fault c.in_err-value.ensures.placed))
