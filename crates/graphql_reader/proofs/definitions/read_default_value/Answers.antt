use Rattle.std.proofs.Common.{refl}
use Rattle.std.proofs.lemmas.Result.{err_from_is_err_and}
use Rattle.graphql_lexer.specs.Ahead.{left}
use Rattle.value_reader.specs.Seen.{rules_of, value_seen}
use Rattle.value_reader.specs.declared.rules.Variables.TheVariants.{Refused}
use Rattle.graphql_reader.proofs.PartLaws.{default_read, default_once, default_fault}
use Rattle.graphql_reader.proofs.ArgumentLeaveLaws.{value_fault, value_read}
use Rattle.graphql_reader.proofs.DocumentLeaveLaws.{default_absent}
use Rattle.graphql_reader.proofs.DocumentLeaveLaws as leave
use Rattle.graphql_reader.proofs.definitions.read_default_value.Goals as goal

pub returns-clause-default : goal.returns-clause-default
returns-clause-default c =
    let rules = rules_of Refused c.args.max_depth in
    let old = c.args.tokens.now in
    let mid = c.take.new.self in
    let rest = left c.read_value.new.tokens in
    let v = value_seen c.in_ok-value.value in (
      default_read rules old mid v rest (c.if-not-take.ensures.taken refl) c.in_ok-value.ensures.value,
      default_once rules old mid v rest (c.if-not-take.ensures.taken refl) c.in_ok-value.ensures.only,
    )

pub returns-in_err-value-clause-fault : goal.returns-in_err-value-clause-fault
returns-in_err-value-clause-fault c =
    let p = err_from_is_err_and c.from_residual.result c.from_residual.ensures.1 in
    rw (p.1, p.2) (default_fault (rules_of Refused c.args.max_depth) c.args.tokens.now c.take.new.self (left c.read_value.new.tokens) _ (c.if-not-take.ensures.taken refl) c.in_err-value.ensures.fault)

pub returns-clause-leaves : goal.returns-clause-leaves
returns-clause-leaves c =
    leave.default_read c.take.new.self (c.if-not-take.ensures.taken refl) (value_read Refused c.take.new.self c.read_value.new.tokens (value_seen c.in_ok-value.value) c.in_ok-value.ensures.value)

pub returns-then-not-take-clause-leaves : goal.returns-then-not-take-clause-leaves
returns-then-not-take-clause-leaves c = default_absent (c.if-not-take.ensures.left refl)

pub returns-in_err-value-clause-stuck : goal.returns-in_err-value-clause-stuck
returns-in_err-value-clause-stuck c =
    let p = err_from_is_err_and c.from_residual.result c.from_residual.ensures.1 in
    rw (p.1, p.2) (leave.default_fault c.take.new.self (c.if-not-take.ensures.taken refl) (value_fault Refused c.take.new.self c.read_value.new.tokens _ c.in_err-value.ensures.none c.in_err-value.ensures.fault c.in_err-value.ensures.placed))
