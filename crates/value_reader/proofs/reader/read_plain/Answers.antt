use Rattle.std.proofs.lemmas.Result.{err_from_is_err_and}
use Rattle.graphql_lexer.specs.Ahead.{ahead_of, left}
use Rattle.value_reader.specs.Seen.{rules_of, value_seen}
use Rattle.value_reader.proofs.ReadLoop.{read_once}
use Rattle.value_reader.proofs.Short.{one_goes_on, one_begins, one_none, one_fault, one_placed}
use Rattle.value_reader.proofs.reader.read_plain.Goals as goal

pub returns-in_err-value-clause-none : goal.returns-in_err-value-clause-none
returns-in_err-value-clause-none c =
    let rules = rules_of c.args.variables c.args.max_depth in
    let p = err_from_is_err_and c.from_residual.result c.from_residual.ensures.1 in
    rw (p.1, p.2) (one_none rules c.args.tokens.now _ c.requires c.in_err-value.ensures.refused)

pub returns-in_err-value-clause-fault : goal.returns-in_err-value-clause-fault
returns-in_err-value-clause-fault c =
    let rules = rules_of c.args.variables c.args.max_depth in
    let p = err_from_is_err_and c.from_residual.result c.from_residual.ensures.1 in
    rw (p.1, p.2) (one_fault rules c.args.tokens.now _ c.requires c.in_err-value.ensures.refused)

pub returns-in_err-value-clause-placed : goal.returns-in_err-value-clause-placed
returns-in_err-value-clause-placed c =
    let rules = rules_of c.args.variables c.args.max_depth in
    let p = err_from_is_err_and c.from_residual.result c.from_residual.ensures.1 in
    rw (p.1, p.2) (one_placed rules c.args.tokens.now _ c.requires c.in_err-value.ensures.refused)

pub returns-clause-value : goal.returns-clause-value
returns-clause-value c =
    let rules = rules_of c.args.variables c.args.max_depth in
    let old = c.args.tokens.now in
    let v = value_seen c.in_ok-value.value in
    let next = c.advance.ensures.left (one_goes_on rules (ahead_of old) v c.requires c.in_ok-value.ensures.value) in
    one_begins rules old c.advance.new.self v c.requires c.in_ok-value.ensures.value next

pub returns-clause-only : goal.returns-clause-only
returns-clause-only c w rest b =
    let rules = rules_of c.args.variables c.args.max_depth in
    let old = c.args.tokens.now in
    let v = value_seen c.in_ok-value.value in
    let next = c.advance.ensures.left (one_goes_on rules (ahead_of old) v c.requires c.in_ok-value.ensures.value) in
    read_once rules (left old) c.advance.new.self v w rest (one_begins rules old c.advance.new.self v c.requires c.in_ok-value.ensures.value next) b
